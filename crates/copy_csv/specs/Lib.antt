pub mod Faults
pub mod Cuts
pub mod Sheets
pub mod Rows
pub mod Csv
pub mod Records
pub mod CsvReading
pub mod Taking
