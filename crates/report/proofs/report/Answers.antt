use Rattle.std.proofs.Common.{◌≡◌, true, false, length, arith}
use Rattle.session.specs.Sessions.{takes}
use Rattle.text.proofs.Texts.{puts_then, alone}
use Rattle.report.specs.Printed.{lines, printed}
use Rattle.report.proofs.report.Goals as goal

pub returns-then-not-takes : goal.returns-then-not-takes
unfolding printed
returns-then-not-takes c =
    let h : takes (length c.args.input.now) ≡ false = cc in
    let new = c.new-text.ensures in
    rw h (alone c.letters.ensures new.empty new.bytes c.len.ensures (omega arith))

pub returns : goal.returns
unfolding printed lines
returns c =
    let h : takes (length c.args.input.now) ≡ true = cc in
    let new = c.new-text.ensures in
    let both = puts_then c.session_line.ensures.puts c.session_line-2.ensures.puts in
    rw h (alone both new.empty new.bytes c.len-2.ensures (omega arith))
