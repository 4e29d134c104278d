pub mod EventLines
pub mod Names
pub mod SceneTexts
pub mod Usual
