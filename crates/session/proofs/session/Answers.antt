use Rattle.std.proofs.Common.{◌≡◌, length, ◌∙◌, arith}
use Rattle.machine.specs.Run.{handed_back}
use Rattle.microcode.proofs.Laying.{in_place}
use Rattle.session.specs.Sessions.{session}
use Rattle.session.proofs.Sessions.{taken, laid_length, session_ends}
use Rattle.session.proofs.session.Goals as goal

pub unwrap-requires : goal.unwrap-requires
unwrap-requires c = (in_place _ _ _ c.lay.ensures (omega (arith, taken (length c.args.image.now) c.requires))).0

pub returns : goal.returns
unfolding session
returns c =
    let m = c.args.image.now in
    let laid = in_place _ _ _ c.lay.ensures (omega (arith, taken (length m) c.requires)) in
    let ran : handed_back c.run.result c.run.new.image ≡ session c.args.core c.args.limit m =
    c.run.ensures ∙ rw (c.words.ensures, laid.1, laid_length m c.requires) in
    record { ran = ran; inside = omega (arith, rw (← ran) at (session_ends m c.requires c.args.core c.args.limit)) }
