pub mod LineWidths
pub mod EffectLaws
