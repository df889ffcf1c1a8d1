-- Letters as the number that their bytes spell, high byte first: "S001" is 0x53303031.
use Rattle.std.specs.Prelude.{ℕ, ◌+◌, ◌*◌, ◌≡◌, refl}
use Prim.Native.String.{String}
use Prim.Native.String as Text
use Prim.Native.Char.{code}

-- what is spelled by some letters behind others, which spell n
abbrev pub spelled_behind : ℕ → String → ℕ
spelled_behind n Text.[] = n
spelled_behind n (Text.◌∷◌ c s) = spelled_behind (n * 256 + code c) s

abbrev pub spelled : String → ℕ
spelled s = spelled_behind 0 s

pub spelled_S001 : spelled "S001" ≡ 0x53303031
spelled_S001 = refl
