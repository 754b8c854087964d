-- The three kinds of text as one test.
use Rattle.std.specs.Prelude.{ℕ, Bool, true, false, not, ◌&&◌, ◌||◌, ◌==◌, nat_le}
use Rattle.iim_dataset.specs.Format.Octets.{lf, cr}

-- an octet of text: at least `least` but not DEL or, if line ends are allowed, LF or CR
abbrev pub is_text : ℕ → Bool → ℕ → Bool
is_text least false b = nat_le least b && not (b == 0x7f)
is_text least true b = ((nat_le least b && not (b == 0x7f)) || b == lf) || b == cr
