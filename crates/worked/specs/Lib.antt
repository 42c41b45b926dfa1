pub mod SaveRemove
