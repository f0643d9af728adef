pub mod NoReading
