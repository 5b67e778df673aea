use Rattle.text.proofs.writer.Writer.+put_digits.Given as goal

-- the measure is k
abbrev pub decreases-put_digits : goal.decreases-put_digits
decreases-put_digits l = l.k
