pub mod ParsedRequests
