pub mod LentTests
