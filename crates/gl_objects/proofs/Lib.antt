pub mod NumberedNames
pub mod Sound
pub mod SoundNames
pub mod Generated
pub mod Laws
pub mod SetNames
