-- The numbers that a call on a table is answered: 0, those of the ledger's calls, 21 and 22.
use Rattle.std.specs.Prelude.{Bool, ◌&&◌, ◌||◌, ℕ, eqb, leb}

unfoldable pub table_number : ℕ → Bool
table_number n = eqb n 0 || ((leb 10 n && leb n 18) || (leb 21 n && leb n 22))
