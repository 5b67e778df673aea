use mathlib.Core.Path.{◌≡◌, ap, ◌∙◌}
use Prim.Native.Nat.{ℕ, ◌+◌, ◌≤◌}
use native.Mathlib.Omega.{arith}
use Rattle.series.specs.Series.{entry_of}
use Rattle.series.specs.Value.{blend}
use Rattle.series.proofs.Arc.{sin_le, cos_le}
use Rattle.sine.specs.SinCos.{half_of}
use Rattle.sine.proofs.Halves.{sin_few, cos_few}
use borrow.Author.Rules.{rules}
use Rattle.sine.proofs.whole.half.Goals as goal

low : {a k m : ℕ} → a ≡ entry_of k → k ≡ m → entry_of m ≤ 1073741824 → a ≤ 1073741824
low e p h = rw (e, p) h

few : {t a b A B : ℕ} (w : ℕ) → t ≡ blend a b w → a ≡ A → b ≡ B → blend A B w ≤ 16777216 → t ≤ 16777216
few w e p q h = rw (e, p, q) h

pub four_entries-e-requires : goal.four_entries-e-requires
four_entries-e-requires c = (c.sin_place.ensures.1, c.sin_place-2.ensures.1, c.cos_place.ensures.1, c.cos_place-2.ensures.1)

pub blended-requires : goal.blended-requires
blended-requires c =
    (low c.four_entries-e.ensures.0 c.sin_place.ensures.0 (sin_le c.args.j), low c.four_entries-e.ensures.1 c.sin_place-2.ensures.0 (sin_le (c.args.j + 1)), search rules)

pub fraction-s-requires : goal.fraction-s-requires
fraction-s-requires c =
    few c.args.w c.blended.ensures (c.four_entries-e.ensures.0 ∙ ap entry_of c.sin_place.ensures.0) (c.four_entries-e.ensures.1 ∙ ap entry_of c.sin_place-2.ensures.0) (sin_few c.args.j c.args.w (search rules))

pub blended-requires-2 : goal.blended-requires-2
blended-requires-2 c =
    (low c.four_entries-e.ensures.2 c.cos_place.ensures.0 (cos_le c.args.j (omega arith)), low c.four_entries-e.ensures.3 c.cos_place-2.ensures.0 (cos_le (c.args.j + 1) (omega arith)), search rules)

pub fraction-c-requires : goal.fraction-c-requires
fraction-c-requires c =
    few c.args.w c.blended-2.ensures (c.four_entries-e.ensures.2 ∙ ap entry_of c.cos_place.ensures.0) (c.four_entries-e.ensures.3 ∙ ap entry_of c.cos_place-2.ensures.0) (cos_few c.args.j c.args.w (search rules) (search rules))

pub returns : goal.returns
unfolding half_of
returns c =
    rw (c.signed-cos.ensures, c.signed-sin.ensures, c.fraction-c.ensures, c.blended-2.ensures, c.fraction-s.ensures, c.blended.ensures, c.four_entries-e.ensures.0, c.four_entries-e.ensures.1, c.four_entries-e.ensures.2, c.four_entries-e.ensures.3, c.sin_place.ensures.0, c.sin_place-2.ensures.0, c.cos_place.ensures.0, c.cos_place-2.ensures.0)
