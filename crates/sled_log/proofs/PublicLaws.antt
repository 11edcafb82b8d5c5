-- The lemmas by which a proof of a crate above cites the laws of histories and tables: a history of Replaces in the order of pages stays orderly, a message of a greater place is appended, and a table has the last message of each page.
-- The laws are the interface (`src/laws.rt`): each says what a client may rely on, and its lemma here says the same. Those under "Helpers" have no law: they are about lists and sizes alone, and are here so that a client needn't write them again.
use Rattle.std.specs.Prelude.{◌↔◌}
use Rattle.std.proofs.Common.{⊎_elim, ◌≡◌, ◌∙◌, ◌<◌, ◌≤◌, ℕ, if◌then◌else◌, List, [], ◌∷◌, ◌++◌, length, Option, Some, None, refl, sym, ap, subst, arith, pos}
use Rattle.std.specs.List.{All, Contains}
use Rattle.std.proofs.lemmas.List.{append-nil}
use Rattle.std.proofs.lemmas.List.Elements.{All-head, All-tail, All-filter, All-contains, Contains-append_right}
use Rattle.sled_codec.specs.declared.serialization.message.LogKind.{LogKind}
use Rattle.sled_codec.specs.declared.serialization.message.LogKind.TheVariants.{Replace}
use Rattle.sled_codec.specs.History.{Message, History, Completed, Step, begins_page, is_replace, later_or, last_beginning, entries_from, page_state, of_page, table, below, HasPage}
use Rattle.sled_codec.specs.PageTables.{IsTable, entry_of, page_with}
use Rattle.sled_codec.specs.Snapshots.{Page, Present, Free}
use Rattle.sled_log.specs.Replaces.{HasLast, IsOfReplaces}
use Rattle.sled_store.proofs.Histories.Ascending.{Ascends, apart_ascends, later_above}
use Rattle.sled_log.proofs.PageTable.PageRuns.{links_behind}
use Rattle.sled_log.proofs.Sessions.MadeHistories.{below_in, from_below}
use Rattle.sled_store.proofs.Histories.TableParts.{in_page, page_ascends, has_page}
pub use Rattle.sled_log.proofs.Afterwards.OrderlyBelow.{orderly_below}
pub use Rattle.sled_log.proofs.Histories.Beginnings.{below_begins}
pub use Rattle.sled_log.proofs.Histories.LastBeginnings.{beginning_in_table, link_in_table, new_in_table}
pub use Rattle.sled_log.proofs.Histories.PagesAlone.{batch_added, others_leave, own_added, own_apart, own_below, own_table}
pub use Rattle.sled_log.proofs.Sessions.RunHistories.{orderly, none_orderly, completed, forgotten}
pub use Rattle.sled_log.proofs.Sessions.Headline.{step_means}
pub use Rattle.sled_log.proofs.Sessions.MadeHistories.{new_there, none_made, orderly_added}
pub use Rattle.sled_log.proofs.Sessions.RunLemmas.{may_be_left}
pub use Rattle.sled_log.proofs.PageTable.TableCuts.{table_below}
-- A stop that was asked for changes nothing else of a device.
pub use Rattle.sled_store.proofs.Traces.StopLemmas.{asked_later, asked_state}
pub use Rattle.sled_store.proofs.Histories.TableParts.{from_table}
-- Helpers: what is an element of a list, of a filter, or of a page's messages below a cut, and that each message has a size.
pub use Rattle.sled_log.proofs.Histories.Sizes.{has_size}
pub use Rattle.sled_store.proofs.Histories.TableParts.{from_page}
pub use Rattle.sled_store.proofs.Segments.Elements.{all_from_in, from_filter, in_cases, in_filter, in_first, in_nothing, in_one, in_rest, no_element, only_in}
use Rattle.sled_log.proofs.Sessions.RunHistories.{no_links}

-- What is left below a cut is what begins there.
pub kept_below : (H : History) (cut : ℕ) (m : Message) → Contains (below H cut).messages m ↔ (Contains H.messages m × (m.place < cut))
kept_below H cut m = (λ there. from_below H cut m there, λ old. below_in H cut m old.0 old.1)

-- A message behind all others is appended.
pub appended : (H H' : History) (m : Message) → Step H (Completed m) H' → All (λ x. x.place < m.place) H.messages → (H'.messages ≡ H.messages ++ m ∷ []) × (H'.batches ≡ H.batches)
unfolding Step
appended H H' m adds lower =
    let none : adds.after ≡ [] = no_element adds.after (λ x there.
    let old : Contains H.messages x = subst (λ (ms : List Message). Contains ms x) (sym adds.old) (Contains-append_right adds.before adds.after x there) in
    let less = All-contains (λ z. z.place < m.place) H.messages x lower old in
    let more = adds.higher x there in
    omega (arith, less, more)) in
    let before : adds.before ≡ H.messages = sym (append-nil adds.before) ∙ ap (λ (ms : List Message). adds.before ++ ms) (sym none) ∙ sym adds.old in
    (adds.new ∙ ap (λ (ms : List Message). adds.before ++ m ∷ ms) none ∙ ap (λ (ms : List Message). ms ++ m ∷ []) before, adds.batches)

-- Of Replaces by place the last one begins their page, and no Link follows it.

-- the last beginning of messages, behind which none begins
record EndsWith (ms : List Message) : Type 0 where
  last : Message
  is : last_beginning ms ≡ Some last
  there : Contains ms last
  greatest : (x : Message) → Contains ms x → x.place ≤ last.place

ends_with : (m : Message) (ms : List Message) → All (λ x. x.kind ≡ Replace) (m ∷ ms) → Ascends (m ∷ ms) → EndsWith (m ∷ ms)
ends_with m [] replaces order = record {
  last = m;
  is = ap (λ (k : LogKind). if begins_page k then Some m else None) (All-head (λ x. x.kind ≡ Replace) m [] replaces);
  there = in_first m [];
  greatest = λ x there. ⊎_elim (λ at. omega (arith, ap (λ (z : Message). z.place) at)) (λ rest. absurd (in_nothing x rest)) (in_cases m x [] there);
}
ends_with m (n ∷ ms) replaces order =
    let rest : EndsWith (n ∷ ms) = ends_with n ms (All-tail (λ x. x.kind ≡ Replace) m (n ∷ ms) replaces) order.1 in
    let above : m.place < rest.last.place = later_above m (n ∷ ms) rest.last order rest.there in
    record {
      last = rest.last;
      is = ap (λ (o : Option Message). later_or o (if begins_page m.kind then Some m else None)) rest.is;
      there = in_rest m rest.last (n ∷ ms) rest.there;
      greatest = λ x there. ⊎_elim (λ at. omega (arith, above, ap (λ (z : Message). z.place) at)) (λ later. rest.greatest x later) (in_cases m x (n ∷ ms) there);
    }

some_end : (ms : List Message) (x : Message) → Contains ms x → All (λ m. m.kind ≡ Replace) ms → Ascends ms → EndsWith ms
some_end [] x there replaces order = absurd (in_nothing x there)
some_end (m ∷ ms) x there replaces order = ends_with m ms replaces order

-- so what they make of their page is that one
one_left : (ms : List Message) (e : EndsWith ms) → All (λ m. m.kind ≡ Replace) ms → page_state ms ≡ e.last ∷ []
unfolding page_state
one_left ms e replaces =
    ap (λ (o : Option Message). entries_from o ms) e.is
    ∙ ap (λ (k : LogKind). e.last ∷ (if is_replace k then links_behind e.last.place ms else [])) (All-contains (λ x. x.kind ≡ Replace) ms e.last replaces e.there)
    ∙ ap (λ (l : List Message). e.last ∷ l) (no_links e.last.place ms replaces)

-- A page of a table has the last of its messages below the cut.
pub table_has_last : (H : History) (cut : ℕ) (pages : List Page) → IsOfReplaces H → IsTable pages H cut → (page : ℕ) → page < length pages → HasLast pages H cut page
unfolding table of_page
table_has_last H cut pages is whole page lt =
    let ms : List Message = of_page H.messages cut page in
    let has : HasPage H cut page = (whole.begun page).0 lt in
    let replaces : All (λ m. m.kind ≡ Replace) ms = All-filter _ (λ m. m.kind ≡ Replace) H.messages is.replaces in
    let e : EndsWith ms = some_end ms has.message has.there replaces (page_ascends H.messages cut page (apart_ascends H.messages is.apart)) in
    let found = from_page H.messages cut page e.last e.there in
    let state : table H cut page ≡ e.last ∷ [] = one_left ms e replaces in
    record {
      message = e.last;
      is_last = record { there = found.0; of = found.1; below = found.2; last = λ x there of low. e.greatest x (in_page H.messages cut page x there of low) };
      entry = whole.states page ∙ ap page_with state
          ∙ ap (λ (k : LogKind). if is_replace k then Present (entry_of e.last) [] else Free (pos e.last.place) e.last.pointer) (All-contains (λ x. x.kind ≡ Replace) ms e.last replaces e.there);
      in_table = subst (λ (l : List Message). Contains l e.last) (sym state) (in_first e.last []);
    }

-- And each message below the cut has its page in the table.
pub table_has_page : (H : History) (cut : ℕ) (pages : List Page) → IsOfReplaces H → IsTable pages H cut → (m : Message) → Contains H.messages m → m.place < cut → m.page < length pages
table_has_page H cut pages is whole m there low = (whole.begun m.page).1 (has_page H cut m.page m there refl low (All-contains (λ x. x.kind ≡ Replace) H.messages m is.replaces there))
