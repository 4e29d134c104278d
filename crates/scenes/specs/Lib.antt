pub mod Created
pub mod Gathered
pub mod Judged
pub mod Kept
pub mod SceneNotes
pub mod Names
