-- A whole number as whole counts of a divisor and a rest, and the sum of two with one carry.
-- Assumes nothing.
use Rattle.std.specs.Prelude.{cond, ℕ, ◌+◌, ◌-◌, ◌%◌, ◌^◌, ltb, eqb, ℤ, pos, negsuc, ◌-ℤ◌}
use Rattle.exact.specs.Rounding.{floor_div}
use Rattle.walking.specs.declared.Mixed.{Mixed}
use Rattle.walking.specs.declared.Parts.{Parts}

-- up − down
abbrev pub net : Parts → ℤ
net p = pos p.up -ℤ pos p.down

-- what z / m, rounded down, leaves
abbrev pub floor_rest : ℤ → ℕ → ℕ
floor_rest (pos a) m = a % m
floor_rest (negsuc a) m = m - 1 - a % m

-- what 32 bits keep of a count
abbrev pub kept_count : ℤ → ℕ
kept_count (pos n) = n % 2 ^ 32
kept_count (negsuc n) = 2 ^ 32 - 1 - n % 2 ^ 32

-- z as whole counts of m and a rest, downwards below nought too
unfoldable pub mixed : ℕ → ℤ → Mixed
mixed m z = record { count = kept_count (floor_div z m); rest = floor_rest z m }

-- what code makes of it: a divisor of 0 leaves no count and no rest
unfoldable pub split_of : Parts → ℕ → Mixed
split_of z m = cond (eqb m 0) (record { count = 0; rest = 0 }) (mixed m (net z))

-- the sum of two: counts and rests are added as 32 and as 64 bits hold them, and where the rests fill the divisor one more count is carried
abbrev pub both : Mixed → Mixed → ℕ
both a b = (a.rest + b.rest) % 2 ^ 64

unfoldable pub sum : ℕ → Mixed → Mixed → Mixed
sum m a b =
    cond (ltb (both a b) m)
    (record { count = (a.count + b.count) % 2 ^ 32; rest = both a b })
    (record { count = ((a.count + b.count) % 2 ^ 32 + 1) % 2 ^ 32; rest = both a b - m })
