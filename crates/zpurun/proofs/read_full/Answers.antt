use Rattle.std.proofs.Common.{rules, subst}
use Rattle.std.specs.Io.KnownBytes.{Consumes}
use Rattle.std.proofs.KnownBytes.{Consumes-trans}
use Rattle.zpurun.proofs.Reading.{filled}
use Rattle.zpurun.proofs.read_full.Goals as goal

pub loop-done-preserved : goal.loop-done-preserved
loop-done-preserved g c =
    let before = c.loop-done.invariant in
    let now = c.in-Ok.ensures in
    record {
      within = search rules;
      read = subst (Consumes _ _) (filled _ _ _ _ _ before.within now.bound.0) (Consumes-trans _ _ _ _ _ before.read now.bytes.0);
    }
