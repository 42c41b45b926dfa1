pub mod Scanning
pub mod Values
pub mod Telling
pub mod Cutting
pub mod RoundTrip
pub mod Walking
