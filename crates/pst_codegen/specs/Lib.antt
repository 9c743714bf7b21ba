pub mod Made
