pub mod Readings
pub mod SoundActions
pub mod SoundCalls
pub mod SoundForms
pub mod SoundKinds
pub mod SoundParts
