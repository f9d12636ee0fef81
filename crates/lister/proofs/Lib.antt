mod Reading
mod Steps
mod Tests
mod Writing
