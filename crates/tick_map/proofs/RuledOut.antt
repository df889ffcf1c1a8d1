-- For each public function: wrong answers that its promise rules out, as tables of what is given
-- and what is then wrong. Assumes nothing.
use Prim.Native.Nat.{ℕ, ◌+◌, ◌-◌, ◌%◌, ◌^◌}
use mathlib.Core.Path.{refl, ap}
use mathlib.Core.Bool.{Bool, true, false}
use mathlib.Core.List.{List, [], ◌∷◌}
use lib.Bits.{bit_or}
use lib.Count.{ones, count_trailing_zeros}
use lib.Dec.{eqb}
use Rattle.terms.specs.RuledOut.{Row, ◌never◌, ◌only◌, Kept, RulesOut, ruled, numbers, bools}
use Rattle.tick_map.specs.Bits.{value_of, bits_in, map_of, is_set, run}
use Rattle.tick_map.specs.Ring.{rotated, without, only as only_those, lacking}
use Rattle.tick_map.proofs.Map.new.Reads as new
use Rattle.tick_map.proofs.Map.new.Kinds as new-kinds
use Rattle.tick_map.proofs.Map.held.Reads as held
use Rattle.tick_map.proofs.Map.held.Kinds as held-kinds
use Rattle.tick_map.proofs.Map.holds.Reads as holds
use Rattle.tick_map.proofs.Map.holds.Kinds as holds-kinds
use Rattle.tick_map.proofs.Map.with.Reads as with-reads
use Rattle.tick_map.proofs.Map.with.Kinds as with-kinds
use Rattle.tick_map.proofs.Map.first_from.Reads as first-from
use Rattle.tick_map.proofs.Map.first_from.Kinds as first-from-kinds
use Rattle.tick_map.proofs.Map.run_from.Reads as run-from
use Rattle.tick_map.proofs.Map.run_from.Kinds as run-from-kinds
use Rattle.tick_map.proofs.Map.held_from.Reads as held-from
use Rattle.tick_map.proofs.Map.held_from.Kinds as held-from-kinds
use Rattle.tick_map.proofs.Map.empty.Reads as empty
use Rattle.tick_map.proofs.Map.empty.Kinds as empty-kinds
use Rattle.tick_map.proofs.Map.none_but.Reads as none-but
use Rattle.tick_map.proofs.Map.none_but.Kinds as none-but-kinds
use Rattle.tick_map.proofs.Map.cleared.Reads as cleared
use Rattle.tick_map.proofs.Map.cleared.Kinds as cleared-kinds
use Rattle.tick_map.proofs.Map.only.Reads as only-reads
use Rattle.tick_map.proofs.Map.only.Kinds as only-kinds
use Rattle.tick_map.proofs.Map.lacking.Reads as lacking-reads
use Rattle.tick_map.proofs.Map.lacking.Kinds as lacking-kinds

-- A map is given as one number, whose digit i is place i.

-- a new one, from nothing
abbrev pub Map-new-wrong : List (Row (Unit {0}) ℕ)
Map-new-wrong =
    tt only 0
    ∷ tt never 1  -- the first place held
    ∷ []

pub Map-new-rules-out : RulesOut (Kept _ new-kinds.ps new-kinds.r new.Post) (λ c. tt) (λ c. bits_in c.result) Map-new-wrong
unfolding value_of map_of
Map-new-rules-out = ruled numbers (λ (i : Unit {0}). bits_in (map_of 0)) (λ c p. ap bits_in p) _ refl

abbrev pub Map-held-wrong : List (Row ℕ ℕ)
Map-held-wrong =
    5 only 2  -- not the number of words, not 0
    ∷ 0x203 never 2  -- only the lowest byte counted
    ∷ []

pub Map-held-rules-out : RulesOut (Kept _ held-kinds.ps held-kinds.r held.Post) (λ c. bits_in c.args.0) (λ c. c.result) Map-held-wrong
unfolding ones
Map-held-rules-out = ruled numbers ones (λ c p. p) _ refl

abbrev pub Map-holds-wrong : List (Row (ℕ × ℕ) Bool)
Map-holds-wrong =
    (2 ^ 255, 255) only true
    ∷ (2 ^ 64, 0) never true  -- the words taken for one
    ∷ (1, 256) never true  -- a place past the end taken for one within
    ∷ []

pub Map-holds-rules-out : RulesOut (Kept _ holds-kinds.ps holds-kinds.r holds.Post) (λ c. (bits_in c.args.0, c.args.1.0)) (λ c. c.result) Map-holds-wrong
Map-holds-rules-out = ruled bools (λ (i : ℕ × ℕ). is_set i.0 i.1) (λ c p. p) _ refl

abbrev pub Map-with-wrong : List (Row (ℕ × ℕ) ℕ)
Map-with-wrong =
    (0, 200) only (2 ^ 200)
    ∷ (1, 1) never 2  -- what was held is lost
    ∷ (1, 256) only 1  -- past the end nothing is held
    ∷ []

pub Map-with-rules-out : RulesOut (Kept _ with-kinds.ps with-kinds.r with-reads.Post) (λ c. (bits_in c.args.0, c.args.1.0)) (λ c. bits_in c.result) Map-with-wrong
unfolding value_of map_of
Map-with-rules-out = ruled numbers (λ (i : ℕ × ℕ). bits_in (map_of (bit_or i.0 (2 ^ i.1) % 2 ^ 256))) (λ c p. ap bits_in p) _ refl

-- from a place on, counted round: the map and the place
abbrev pub Map-first-from-wrong : List (Row (ℕ × ℕ) ℕ)
Map-first-from-wrong =
    (1, 200) never 256  -- an end at the last word, not gone round
    ∷ (1, 200) only 56
    ∷ (2 ^ 64 + 2 ^ 127, 100) never 220  -- the low part of the place's own word looked at before the high one
    ∷ (2 ^ 64 + 2 ^ 127, 100) only 27
    ∷ (0, 5) only 256  -- none is no place
    ∷ []

pub Map-first-from-rules-out : RulesOut (Kept _ first-from-kinds.ps first-from-kinds.r first-from.Post) (λ c. (bits_in c.args.0, c.args.1.0)) (λ c. c.result) Map-first-from-wrong
unfolding rotated count_trailing_zeros
Map-first-from-rules-out = ruled numbers (λ (i : ℕ × ℕ). count_trailing_zeros 256 (rotated i.1 i.0)) (λ c p. p) _ refl

abbrev pub Map-run-from-wrong : List (Row (ℕ × ℕ) ℕ)
Map-run-from-wrong =
    (0xB, 0) only 2  -- up to the first gap, not all that is held
    ∷ (2 ^ 255 + 1, 255) never 1  -- not gone round
    ∷ (2 ^ 256 - 1, 7) never 263  -- gone on past 256
    ∷ (2 ^ 256 - 1, 7) only 256
    ∷ []

pub Map-run-from-rules-out : RulesOut (Kept _ run-from-kinds.ps run-from-kinds.r run-from.Post) (λ c. (bits_in c.args.0, c.args.1.0)) (λ c. c.result) Map-run-from-wrong
unfolding rotated run
Map-run-from-rules-out = ruled numbers (λ (i : ℕ × ℕ). run 256 (rotated i.1 i.0)) (λ c p. p) _ refl

-- the k places from s on, counted round: the map, s and k
abbrev pub Map-held-from-wrong : List (Row (ℕ × ℕ × ℕ) ℕ)
Map-held-from-wrong =
    (5, 0, 3) never 1  -- one place short
    ∷ (5, 0, 2) never 2  -- the whole word counted
    ∷ (3, 255, 2) only 1  -- gone round: place 0 is behind place 255
    ∷ (5, 256, 1000) only 2  -- each place once, and 256 is place 0
    ∷ []

pub Map-held-from-rules-out : RulesOut (Kept _ held-from-kinds.ps held-from-kinds.r held-from.Post) (λ c. (bits_in c.args.0, c.args.1.0, c.args.1.1.0)) (λ c. c.result) Map-held-from-wrong
unfolding rotated ones
Map-held-from-rules-out = ruled numbers (λ (i : ℕ × ℕ × ℕ). ones (rotated i.1 i.0 % 2 ^ i.2)) (λ c p. p) _ refl

abbrev pub Map-empty-wrong : List (Row ℕ Bool)
Map-empty-wrong =
    (2 ^ 255) never true  -- the last word not looked at
    ∷ 0 only true
    ∷ []

pub Map-empty-rules-out : RulesOut (Kept _ empty-kinds.ps empty-kinds.r empty.Post) (λ c. bits_in c.args.0) (λ c. c.result) Map-empty-wrong
Map-empty-rules-out = ruled bools (λ (m : ℕ). eqb m 0) (λ c p. p) _ refl

-- the k places behind s, counted round: the map, s and k
abbrev pub Map-none-but-wrong : List (Row (ℕ × ℕ × ℕ) Bool)
Map-none-but-wrong =
    (1, 0, 3) never true  -- place s itself let through
    ∷ (2 ^ 4, 0, 3) never true  -- one place too many
    ∷ (2 ^ 3, 0, 3) never false  -- one too few
    ∷ (2 ^ 130, 60, 6) never true  -- only the words where the places begin and end looked at
    ∷ (2 ^ 3, 60, 6) never true  -- before s, in its own word
    ∷ (2 ^ 255 + 2, 254, 3) only true  -- gone round
    ∷ (2 ^ 255 + 2, 254, 2) only false
    ∷ (2 ^ 100, 7, 300) only true  -- all places are among 256
    ∷ (0, 7, 0) only true
    ∷ []

pub Map-none-but-rules-out : RulesOut (Kept _ none-but-kinds.ps none-but-kinds.r none-but.Post) (λ c. (bits_in c.args.0, c.args.1.0, c.args.1.1.0)) (λ c. c.result) Map-none-but-wrong
unfolding rotated without
Map-none-but-rules-out = ruled bools (λ (i : ℕ × ℕ × ℕ). eqb (without (i.1 + 1) i.2 i.0) 0) (λ c p. p) _ refl

abbrev pub Map-cleared-wrong : List (Row (ℕ × ℕ × ℕ) ℕ)
Map-cleared-wrong =
    (7, 0, 2) never 6  -- a place too few
    ∷ (7, 0, 2) never 0  -- a place too many
    ∷ (2 ^ 64 + 1, 64, 1) never (2 ^ 64)  -- in the wrong word
    ∷ (2 ^ 255 + 3, 255, 2) only 2  -- gone round
    ∷ (2 ^ 100, 7, 300) only 0  -- beyond 256 nothing is left
    ∷ []

pub Map-cleared-rules-out : RulesOut (Kept _ cleared-kinds.ps cleared-kinds.r cleared.Post) (λ c. (bits_in c.args.0, c.args.1.0, c.args.1.1.0)) (λ c. bits_in c.result) Map-cleared-wrong
unfolding value_of map_of rotated without
Map-cleared-rules-out = ruled numbers (λ (i : ℕ × ℕ × ℕ). bits_in (map_of (without i.1 i.2 i.0))) (λ c p. ap bits_in p) _ refl

abbrev pub Map-only-wrong : List (Row (ℕ × ℕ × ℕ) ℕ)
Map-only-wrong =
    (7, 0, 2) never 4  -- what lies outside kept in place of what lies within
    ∷ (7, 0, 2) only 3
    ∷ (2 ^ 255 + 3, 255, 2) only (2 ^ 255 + 1)  -- gone round
    ∷ (2 ^ 100, 7, 300) only (2 ^ 100)  -- beyond 256 all of them
    ∷ []

pub Map-only-rules-out : RulesOut (Kept _ only-kinds.ps only-kinds.r only-reads.Post) (λ c. (bits_in c.args.0, c.args.1.0, c.args.1.1.0)) (λ c. bits_in c.result) Map-only-wrong
unfolding value_of map_of rotated only_those
Map-only-rules-out = ruled numbers (λ (i : ℕ × ℕ × ℕ). bits_in (map_of (only_those i.1 i.2 i.0))) (λ c p. ap bits_in p) _ refl

abbrev pub Map-lacking-wrong : List (Row (ℕ × ℕ × ℕ) ℕ)
Map-lacking-wrong =
    (5, 0, 4) never 5  -- the held places in place of the others
    ∷ (5, 0, 4) never 15  -- all places, held or not
    ∷ (5, 0, 4) only 10
    ∷ (1, 255, 2) only (2 ^ 255)  -- gone round
    ∷ []

pub Map-lacking-rules-out : RulesOut (Kept _ lacking-kinds.ps lacking-kinds.r lacking-reads.Post) (λ c. (bits_in c.args.0, c.args.1.0, c.args.1.1.0)) (λ c. bits_in c.result) Map-lacking-wrong
unfolding value_of map_of rotated only_those lacking
Map-lacking-rules-out = ruled numbers (λ (i : ℕ × ℕ × ℕ). bits_in (map_of (lacking i.1 i.2 i.0))) (λ c p. ap bits_in p) _ refl
