use Rattle.host.specs.Hosted.{words_of}
use Rattle.host.proofs.answers.put_report.Goals as goal

pub returns : goal.returns
unfolding words_of
returns c =
    rw (c.put-5.ensures, c.put-4.ensures, c.put-3.ensures, c.put-2.ensures, c.put.ensures, c.from-3.ensures, c.from-2.ensures, c.from.ensures)
