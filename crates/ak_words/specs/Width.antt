use Rattle.std.specs.Prelude.{ℕ, Bool, ◌==◌, ◌||◌}

-- the widths of C's integers in bits
abbrev pub is_width : ℕ → Bool
is_width n = (n == 8) || (n == 16) || (n == 32) || (n == 64)
