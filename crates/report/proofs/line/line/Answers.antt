use Rattle.text.proofs.Texts.{puts_then}
use Rattle.report.specs.Lines.{line}
use Rattle.report.proofs.line.line.Goals as goal

pub returns-clause-puts : goal.returns-clause-puts
unfolding line
returns-clause-puts c =
    let p = puts_then (rw c.name.ensures at c.letters.ensures) (rw c.number.ensures at c.field.ensures.puts) in
    let q = puts_then (puts_then p c.field-2.ensures.puts) c.field-3.ensures.puts in
    puts_then (puts_then q c.top.ensures.puts) c.byte.ensures
