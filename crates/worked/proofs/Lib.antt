pub mod SaveRemoveFacts
