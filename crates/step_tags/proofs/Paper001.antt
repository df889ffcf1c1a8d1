-- Paper 001's tables as they stand there, and that the one table has exactly their fields,
-- type by type.
use Rattle.std.specs.Prelude.{◌≡◌, refl, ◌++◌}
use Rattle.step_tags.specs.Table.{rows, among}
use Rattle.step_tags.specs.Paper001.{header, lines_of, body}

-- logon, logout, heartbeat, test request, resend request, reject, sequence reset
pub table_A : lines_of 65 rows ≡ header ++ body 65
unfolding lines_of rows among
table_A = refl

pub table_5 : lines_of 53 rows ≡ header ++ body 53
unfolding lines_of rows among
table_5 = refl

pub table_0 : lines_of 48 rows ≡ header ++ body 48
unfolding lines_of rows among
table_0 = refl

pub table_1 : lines_of 49 rows ≡ header ++ body 49
unfolding lines_of rows among
table_1 = refl

pub table_2 : lines_of 50 rows ≡ header ++ body 50
unfolding lines_of rows among
table_2 = refl

pub table_3 : lines_of 51 rows ≡ header ++ body 51
unfolding lines_of rows among
table_3 = refl

pub table_4 : lines_of 52 rows ≡ header ++ body 52
unfolding lines_of rows among
table_4 = refl
