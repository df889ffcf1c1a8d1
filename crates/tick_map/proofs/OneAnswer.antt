-- For each public function: two answers that its promise allows are equal. Assumes nothing.
use mathlib.Core.Path.{sym, ◌∙◌}
use Rattle.terms.specs.OneAnswer.{OneAnswer}
use Rattle.tick_map.proofs.Map.new.Reads as new
use Rattle.tick_map.proofs.Map.new.Kinds as new-kinds
use Rattle.tick_map.proofs.Map.held.Reads as held
use Rattle.tick_map.proofs.Map.held.Kinds as held-kinds
use Rattle.tick_map.proofs.Map.holds.Reads as holds
use Rattle.tick_map.proofs.Map.holds.Kinds as holds-kinds
use Rattle.tick_map.proofs.Map.with.Reads as with
use Rattle.tick_map.proofs.Map.with.Kinds as with-kinds
use Rattle.tick_map.proofs.Map.empty.Reads as empty
use Rattle.tick_map.proofs.Map.empty.Kinds as empty-kinds
use Rattle.tick_map.proofs.Map.first_from.Reads as first-from
use Rattle.tick_map.proofs.Map.first_from.Kinds as first-from-kinds
use Rattle.tick_map.proofs.Map.run_from.Reads as run-from
use Rattle.tick_map.proofs.Map.run_from.Kinds as run-from-kinds
use Rattle.tick_map.proofs.Map.held_from.Reads as held-from
use Rattle.tick_map.proofs.Map.held_from.Kinds as held-from-kinds
use Rattle.tick_map.proofs.Map.none_but.Reads as none-but
use Rattle.tick_map.proofs.Map.none_but.Kinds as none-but-kinds
use Rattle.tick_map.proofs.Map.cleared.Reads as cleared
use Rattle.tick_map.proofs.Map.cleared.Kinds as cleared-kinds
use Rattle.tick_map.proofs.Map.only.Reads as only
use Rattle.tick_map.proofs.Map.only.Kinds as only-kinds
use Rattle.tick_map.proofs.Map.lacking.Reads as lacking
use Rattle.tick_map.proofs.Map.lacking.Kinds as lacking-kinds

pub Map-new-one-answer : OneAnswer _ new-kinds.ps new-kinds.r new.Post
Map-new-one-answer κs a x y s t p q = p ∙ sym q

pub Map-held-one-answer : OneAnswer _ held-kinds.ps held-kinds.r held.Post
Map-held-one-answer κs a x y s t p q = p ∙ sym q

pub Map-holds-one-answer : OneAnswer _ holds-kinds.ps holds-kinds.r holds.Post
Map-holds-one-answer κs a x y s t p q = p ∙ sym q

pub Map-with-one-answer : OneAnswer _ with-kinds.ps with-kinds.r with.Post
Map-with-one-answer κs a x y s t p q = p ∙ sym q

pub Map-empty-one-answer : OneAnswer _ empty-kinds.ps empty-kinds.r empty.Post
Map-empty-one-answer κs a x y s t p q = p ∙ sym q

pub Map-first-from-one-answer : OneAnswer _ first-from-kinds.ps first-from-kinds.r first-from.Post
Map-first-from-one-answer κs a x y s t p q = p ∙ sym q

pub Map-run-from-one-answer : OneAnswer _ run-from-kinds.ps run-from-kinds.r run-from.Post
Map-run-from-one-answer κs a x y s t p q = p ∙ sym q

pub Map-held-from-one-answer : OneAnswer _ held-from-kinds.ps held-from-kinds.r held-from.Post
Map-held-from-one-answer κs a x y s t p q = p ∙ sym q

pub Map-none-but-one-answer : OneAnswer _ none-but-kinds.ps none-but-kinds.r none-but.Post
Map-none-but-one-answer κs a x y s t p q = p ∙ sym q

pub Map-cleared-one-answer : OneAnswer _ cleared-kinds.ps cleared-kinds.r cleared.Post
Map-cleared-one-answer κs a x y s t p q = p ∙ sym q

pub Map-only-one-answer : OneAnswer _ only-kinds.ps only-kinds.r only.Post
Map-only-one-answer κs a x y s t p q = p ∙ sym q

pub Map-lacking-one-answer : OneAnswer _ lacking-kinds.ps lacking-kinds.r lacking.Post
Map-lacking-one-answer κs a x y s t p q = p ∙ sym q
