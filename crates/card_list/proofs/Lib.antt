pub mod ElevenNumbers
