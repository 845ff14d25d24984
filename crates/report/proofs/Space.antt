-- The part of the space that a copy of the input takes.
use lib.ListN.{length-replicate}
use lib.Seq.{length-take-le}
use Rattle.session.proofs.Sessions.{within}

pub ruleset fits = (within, length-take-le, length-replicate)
