pub mod FreeNames
pub mod SlugNames
pub mod SoundConfigs
pub mod SoundHelpers
pub mod SoundParts
pub mod SoundScripts
