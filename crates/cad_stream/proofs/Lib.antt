pub mod StreamLemmas
pub mod ConversationLemmas
pub mod FeedLemmas
