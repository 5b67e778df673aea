use borrow.Author.Tests.{eq-eqb, ne_eqb, lt-ltb, le-ltb}
use Rattle.paths.specs.Paths.{is_refused}
use Rattle.paths.proofs.refusal.is_refused.Goals as goal

pub returns-then-paths-ne0 : goal.returns-then-paths-ne0
unfolding is_refused
returns-then-paths-ne0 c = rw (ne_eqb _ _ c.if-paths-ne0.true)

pub returns-then-paths-gt64 : goal.returns-then-paths-gt64
unfolding is_refused
returns-then-paths-gt64 c = rw (eq-eqb _ _ c.if-paths-ne0.false, lt-ltb _ _ c.if-paths-gt64.true)

pub returns-then-paths-room : goal.returns-then-paths-room
unfolding is_refused
returns-then-paths-room c = rw (eq-eqb _ _ c.if-paths-ne0.false, le-ltb _ _ c.if-paths-gt64.false, lt-ltb _ _ c.if-paths-room.true)

pub returns-then-positions-ne0 : goal.returns-then-positions-ne0
unfolding is_refused
returns-then-positions-ne0 c = rw (eq-eqb _ _ c.if-paths-ne0.false, le-ltb _ _ c.if-paths-gt64.false, le-ltb _ _ c.if-paths-room.false, ne_eqb _ _ c.if-positions-ne0.true)

pub returns-then-indices-ne0 : goal.returns-then-indices-ne0
unfolding is_refused
returns-then-indices-ne0 c = rw (eq-eqb _ _ c.if-paths-ne0.false, le-ltb _ _ c.if-paths-gt64.false, le-ltb _ _ c.if-paths-room.false, eq-eqb _ _ c.if-positions-ne0.false, ne_eqb _ _ c.if-indices-ne0.true)

pub returns : goal.returns
unfolding is_refused
returns c = rw (eq-eqb _ _ c.if-paths-ne0.false, le-ltb _ _ c.if-paths-gt64.false, le-ltb _ _ c.if-paths-room.false, eq-eqb _ _ c.if-positions-ne0.false, eq-eqb _ _ c.if-indices-ne0.false) c.any_beyond.ensures
