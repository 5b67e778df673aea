use mathlib.Core.Path.{sym, ◌∙◌}
use Rattle.block.specs.Edition.{edition1}
use Rattle.block.proofs.Table.{Known, row_stub, row_edition, row_zeros, row_limit, row_length, row_attributes, row_none}
use Rattle.block.proofs.refusal.refusal_of.Goals as goal
use Rattle.block.proofs.refusal.refusal_of.Goals.{After-limit_of}

-- what is known where the rows 1 to 3 are passed
known : (c : After-limit_of) → Known c.args.block.now c.args.h
unfolding edition1
known c =
    record {
      whole = c.if-block-lt-HEADER_BYTES.false;
      edition_is = sym c.is_known.ensures ∙ c.if-not-is_known.false;
      zeros_are = c.if-h-ne0.false;
    }

pub returns-then-block-lt-HEADER_BYTES : goal.returns-then-block-lt-HEADER_BYTES
unfolding edition1
returns-then-block-lt-HEADER_BYTES c = row_stub _ _ c.if-block-lt-HEADER_BYTES.true

pub returns-then-not-is_known : goal.returns-then-not-is_known
unfolding edition1
returns-then-not-is_known c = row_edition _ _ c.if-block-lt-HEADER_BYTES.false (sym c.is_known.ensures ∙ c.if-not-is_known.true)

pub returns-then-h-ne0 : goal.returns-then-h-ne0
unfolding edition1
returns-then-h-ne0 c = row_zeros _ _ c.if-block-lt-HEADER_BYTES.false (sym c.is_known.ensures ∙ c.if-not-is_known.false) c.if-h-ne0.true

pub returns-then-over_limit : goal.returns-then-over_limit
returns-then-over_limit c = row_limit _ _ (known (goal.at.returns-then-over_limit c).After-limit_of) (rw (← c.limit_of.ensures) (sym c.over_limit.ensures ∙ c.if-over_limit.true))

pub returns-then-block-block_bytes : goal.returns-then-block-block_bytes
returns-then-block-block_bytes c = row_length _ _ (known (goal.at.returns-then-block-block_bytes c).After-limit_of) (rw (← c.limit_of.ensures) (sym c.over_limit.ensures ∙ c.if-over_limit.false)) (λ e. c.if-block-block_bytes.true (e ∙ sym c.block_bytes.ensures))

pub returns-then-is_other_attributes : goal.returns-then-is_other_attributes
returns-then-is_other_attributes c =
    row_attributes _ _ (known (goal.at.returns-then-is_other_attributes c).After-limit_of) (rw (← c.limit_of.ensures) (sym c.over_limit.ensures ∙ c.if-over_limit.false)) (c.if-block-block_bytes.false ∙ c.block_bytes.ensures) (sym c.is_other_attributes.ensures ∙ c.if-is_other_attributes.true)

pub returns : goal.returns
returns c =
    row_none _ _ (known (goal.at.returns c).After-limit_of) (rw (← c.limit_of.ensures) (sym c.over_limit.ensures ∙ c.if-over_limit.false)) (c.if-block-block_bytes.false ∙ c.block_bytes.ensures) (sym c.is_other_attributes.ensures ∙ c.if-is_other_attributes.false)
