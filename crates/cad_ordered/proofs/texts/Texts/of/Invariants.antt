use Rattle.std.proofs.Common.{◌≡◌, chars, map, string_bytes}
use Rattle.cad_feature.specs.Values.{a_text}
use Rattle.cad_ordered.specs.inner.Samples.{AreSamples}
use Rattle.cad_ordered.proofs.texts.Texts.of.Given as goal

abbrev pub invariant-loop-key : goal.invariant-loop-key
invariant-loop-key l = (map (λ text. a_text (chars (string_bytes text.value))) l.texts.items ≡ map (λ key. a_text (chars (string_bytes key.text.value))) l.yielded) × AreSamples l.samples.items (map (λ text. string_bytes text.value) l.texts.items)
