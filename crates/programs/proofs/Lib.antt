mod Listings
mod Translations
