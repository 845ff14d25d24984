use Rattle.std.proofs.Common.{take, ap, ◌∙◌, subst, sym, refl}
use Rattle.std.proofs.lemmas.List.{take_at}
use Rattle.std.proofs.lemmas.Result.{on_ok_weaker}
use Rattle.std.specs.Io.KnownBytes.{Appends}
use Rattle.report.specs.Printed.{printed}
use Rattle.zpurun.proofs.Due.{due}
use Rattle.zpurun.proofs.run.Goals as goal

pub returns : goal.returns
returns g c =
    let said = c.report-printed.ensures in
    let image = c.unwrap_or-image.result in
    let written = ap (take c.report-printed.result) said.1 ∙ take_at (printed image.now) _ c.report-printed.result (sym said.0) in
    on_ok_weaker c.write_all.result
    (λ appends. due _ _ _ c.image.result _ _ c.unwrap_or-image.ensures refl c.image.ensures (subst (Appends _ _) written appends))
    c.write_all.ensures.bytes
