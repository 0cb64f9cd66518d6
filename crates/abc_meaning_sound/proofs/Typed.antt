-- A verified setting has typings, one for each method that has a body.
use Rattle.abc_meaning.specs.ThrowLaws.{IsVerifiedSetting}
use Rattle.abc_meaning.specs.Sound.{AreTypings, Typings}
use Rattle.abc_meaning_sound.proofs.Never.{are_typings, typings}
use Rattle.abc_meaning.specs.Setting.{Setting}

pub has_typings : (p : Setting) → IsVerifiedSetting p → (states : Typings) × AreTypings p states
has_typings p v = (typings p v, are_typings p v)
