-- The paper's numbers.
use mathlib.Core.Path.{◌≡◌, refl}
use Rattle.session.specs.Sessions.{shortest, longest, wide_limit, narrow_limit}

-- 2,052 to 16,384 bytes
pub bytes_taken : (shortest ≡ 2052) × (longest ≡ 16384)
bytes_taken = (refl, refl)

-- 1,000 steps of the wide core, 200,000 of the narrow one
pub steps_allowed : (wide_limit ≡ 1000) × (narrow_limit ≡ 200000)
steps_allowed = (refl, refl)
