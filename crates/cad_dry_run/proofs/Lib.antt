pub mod MemberLemmas
pub mod ValueLemmas
pub mod LineLemmas
pub mod ReportLemmas
pub mod PieceLemmas
pub mod KeepingLemmas
pub mod BufferedLemmas
pub mod CopyingLemmas
