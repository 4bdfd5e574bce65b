pub mod PassNumbers
