-- What a refusal tells. Assumes nothing.
use Rattle.std.specs.Prelude.{ℕ, min}
use Rattle.refusal.specs.declared.told.Layer.{Layer}
use Rattle.refusal.specs.declared.told.Refusal.{Refusal}

-- a refusal by this layer and number; a place above 65,535 is told as 65,535
abbrev pub refused : Layer → ℕ → ℕ → Refusal
refused l k p = record { layer = l; number = k; place = min p 65535 }
