-- The range of moments.
use Rattle.std.specs.Prelude.{ℤ, pos, negsuc, if◌then◌else◌}
use Rattle.std.specs.Ordering.{int_cmp, is_lt}

-- 0001-01-01T00:00:00Z and 9999-12-31T23:59:59.999999Z
abbrev pub first_moment : ℤ
first_moment = negsuc 62135596799999999

abbrev pub last_moment : ℤ
last_moment = pos 253402300799999999

-- a moment, and outside the range its nearer end
abbrev pub brought : ℤ → ℤ
brought moment =
    (if is_lt (int_cmp moment first_moment) then first_moment
    else (if is_lt (int_cmp last_moment moment) then last_moment
    else moment))
