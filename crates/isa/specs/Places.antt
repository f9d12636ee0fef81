-- Places of the memory, and its pages.
use Rattle.std.specs.Prelude.{ℕ, zero, suc, ◌/◌, Bool, true, ◌&&◌, ◌||◌, nat_le}

-- places 0 to 2047
abbrev pub image_size : ℕ
image_size = 2048

abbrev pub page_size : ℕ
page_size = 256

abbrev pub page : ℕ → ℕ
page p = p / page_size

-- user places: 0 to 192 and 256 to 2047; the others are reserved
abbrev pub user : ℕ → Bool
user p = nat_le p 192 || (nat_le 256 p && nat_le p 2047)

-- a test holds of n places from p on
abbrev pub every : (ℕ → Bool) → ℕ → ℕ → Bool
every t p zero = true
every t p (suc n) = t p && every t (suc p) n

abbrev pub all_user : ℕ → ℕ → Bool
all_user p n = every user p n
