-- A month of captures, each beside one that differs in private bytes alone: the page is the same.
use Rattle.std.specs.Prelude.{ℕ, ◌+◌, ◌-◌, ◌/◌, ◌<◌, ◌≤◌, ◌≡◌, refl, ◌⊎◌, List, [], ◌∷◌, ◌++◌, length, take, drop}
use Rattle.std.proofs.Common.{sym, ap₂, ◌∙◌, inl, inr, ⊎_elim, arith, length-append, take_all, length-take-le, get_or-take, get_or-drop, ext_get_or}
use Rattle.std.proofs.Math.Path.{ap}
use Rattle.std.proofs.Math.Dec.{leb}
use Rattle.std.proofs.Math.ListN.{get_or, get_or-eq_default}
use Rattle.terms.specs.Cases.{less}
use Rattle.terms.specs.Paper.{answer}
use Rattle.octets.specs.Octets.{be}
use Rattle.octets.specs.Numerals.{numeral_take}
use Rattle.rules.specs.Table.{kind_of}
use Rattle.frame_spec.specs.Frame.{msg_type, body_length, body, read_of}
use Rattle.frame_spec.specs.Outcomes.{good}
use Rattle.frame_spec.specs.Places.{body_length_lem}
use Rattle.frame_spec.specs.Write.{Message, message_of}
use Rattle.private.specs.Private.{private_of}
use Rattle.private.specs.Scrub.{spans_of, clean_body, scrubbed, scrub_answer}
use Rattle.private.specs.Paint.{Inside, painted_agrees}
use Rattle.private.specs.PrivateLaws.{PrivateByte, private_few, private_same}
use Rattle.private.proofs.PrivateLaws.{private_is}
use Rattle.private.specs.Laws as scrubs
use Rattle.private.specs.Laws.{Alike}
use Rattle.private.proofs.Laws.{spans_within, scrub_message, scrub_keeps, scrub_alike, length_always, answer_as}
use Rattle.walk_laws.specs.Walk.{frame}
use Rattle.walk_laws.specs.Account as Account
use Rattle.walk_laws.specs.Account.{account_of}
use Rattle.walk_laws.specs.Frames.{joined, each_of, Frames, f_nil, f_cons, ReadAlike as SeenAlike, a_nil, a_cons, alike as seen-joined}
use Rattle.reading.specs.Seen.{seen_of, says_of}
use Rattle.reading.specs.SeenLaws.{says_frame}
use Rattle.reading.proofs.SeenLaws.{seen_answer, seen_size, seen_kept, seen_fits}
use Rattle.reading.proofs.Private.{seen_alike}
use Rattle.ledger_spec.specs.Calls.{Request, answer_to, fresh}
use Rattle.ledger_spec.specs.Trace.{none}
use Rattle.walk_spec.specs.Walk as walk
use Rattle.walk_spec.specs.Walk.{sights, record_by, book_by, walk_of, calls_from, calls_of, walk_answer, walk_book, walk_leaves}
use Rattle.walk_spec.specs.Literal.{Walk, literal_walk}
use Rattle.walk_spec.proofs.LiteralLaws.{literal_walk_lem}
use Rattle.listing_text.specs.Listed.{listed_of}
use Rattle.listing_text.specs.Output.{output_of}
use Rattle.month_spec.specs.Figures.{figures_of, figure_of}
use Rattle.month_spec.specs.Page.{Page, figures_in_all, highest}
use Rattle.month_spec.proofs.Lists.{tabled_same, all_same}
use Rattle.month_spec.specs.Calls as month
use Rattle.month_spec.specs.Calls.{figure_at, sum_fits, number_to, figures_told, counted}
use Rattle.month_spec.specs.Trace.{page_after}
use Rattle.clean_spec.specs.Clean as clean
use Rattle.clean_spec.specs.Clean.{clean_of, clean_answer, clean_leaves}
use Rattle.clean_spec.specs.Laws.{AllFrames, joined_sights, clean_joined}
use Rattle.promises_private.specs.TwoCaptures.{PrivateAt, SameButPrivate, Pairwise, no_pair, one_pair, TwoCaptures, SameOutside, AllPairs, no_more, and_more, SamePages, OnlyPrivateHidden}
use Rattle.promises_private.proofs.TwoCapturesHold.{same_outside}

pub same_pages : SamePages
unfolding page_after
same_pages p ss ts no_more = refl
same_pages p ss ts (and_more {s = s} {t = t} {ss = ss'} {ts = ts'} c r) =
    ap (λ (q : Page). page_after q ss') ((same_outside s t c).same_page p) ∙ same_pages (month.next_of p t) ss' ts' r
