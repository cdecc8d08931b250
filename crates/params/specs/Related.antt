-- The relations between the numbers of a parameter set. Only a private function asks for them; the type of a set shows the
-- same. Assumes nothing.
use Rattle.std.specs.Prelude.{◌≡◌, ◌+◌, ◌*◌, ◌/◌, ◌^◌, ◌<◌, ◌≤◌, true, length}
use Rattle.params.specs.declared.numbers.Numbers.{Numbers}
use Rattle.params.specs.Known.{known, below}

-- what is asked of a line of the constant table
pub record Related (s : Numbers) : Type 0 where
  -- the field is one of the four
  pub field : known s.m s.f ≡ true
  pub wide : s.m ≤ 13
  pub some : 0 < s.t
  pub degree : s.t ≤ 128
  -- the order mt of the check block, and its packed bytes L
  pub order : 1 ≤ s.m * s.t
  pub rows : s.m * s.t ≤ 1664
  pub packed : (s.m * s.t + 7) / 8 ≤ 208
  -- columns are left beside the block
  pub columns : s.m * s.t < s.n
  -- the field has enough points for the support
  pub points : s.n ≤ 2 ^ s.m
  pub long : s.n ≤ 8192
  pub entries : s.t + s.n ≤ 8320
  -- F(y)
  pub four : length s.terms ≡ 4
  pub reduced : below s.m s.t s.terms ≡ true
