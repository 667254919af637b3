pub mod LetterLaws
pub mod AllowedLaws
pub mod EncodeLaws
pub mod DecodeLaws
pub mod RoundTrip
pub mod Promises
pub mod Points
