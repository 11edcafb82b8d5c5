-- What a message takes the place of, as a session tells the log: all that its page is, by the session's table, which is that of the history. It is the page's former state,
-- but for the length of a Free from before a restart.
use Rattle.std.proofs.Common.{⊎_elim, ◌≡◌, ◌∙◌, ◌<◌, ◌&&◌, ◌||◌, ℕ, zero, suc, pos, Bool, true, false, not, nat_lt, if◌then◌else◌, List, [], ◌∷◌, length, map, get_or, filter, cond, sym, ap, subst, arith, refl, Option, None, Some, eq-eqb}
use Rattle.std.specs.List.{All, Contains, slice_get}
use Rattle.std.proofs.lemmas.Bool.{false≢true, ne_eqb}
use Rattle.std.proofs.lemmas.List.Elements.{All-contains, All-tail, Contains-append_cases}
use Rattle.sled_codec.specs.declared.serialization.message.LogKind.{LogKind}
use Rattle.sled_codec.specs.declared.serialization.message.LogKind.TheVariants as does
use Rattle.sled_codec.specs.declared.serialization.snapshot.PageState.{PageState}
use Rattle.sled_codec.specs.History.{Completed, History, Message, Step, begins_page, entries_from, is_link, is_replace, last_beginning, of_page, page_state, table}
use Rattle.sled_codec.specs.PageTables.{IsTable, entry_of, page_with}
use Rattle.sled_codec.specs.Snapshots.{Free, Page, Present, Uninitialized, page_of}
use Rattle.sled_store.specs.Marks.{IsFormerList, info_of, told_of, unsized}
use Rattle.sled_store.specs.declared.segment.slot.CacheInfo.{CacheInfo}
use Rattle.sled_store.proofs.Histories.Ascending.{apart_ascends}
use Rattle.sled_store.proofs.Histories.PageStates.{IsLast, last_found}
use Rattle.sled_store.proofs.Histories.TableParts.{from_page, page_ascends}
use Rattle.sled_store.proofs.Segments.Elements.{all_from_in, from_filter, in_first, in_rest}
use Rattle.sled_core.specs.Unmarked.{is_among, without}
use Rattle.sled_log.specs.Made.{IsMade}
use Rattle.sled_log.specs.RunStates.{page_now, top}
use Rattle.sled_log.specs.SessionMarks.{free_length, replacing, told_by, told_message, told_page, told_state}
use Rattle.sled_log.proofs.Sessions.MadeHistories.{kept_without}

module _ (size floor : ℕ) where
  -- What is told of a message is what a segment is told of it, but for its length,
  unsized_by : (k : LogKind) (m : Message) → unsized (told_by size floor k m) ≡ unsized (info_of m)
  unsized_by does.Free m = refl
  unsized_by does.Replace m = refl
  unsized_by does.Link m = refl
  unsized_by does.Skip m = refl
  unsized_by does.Corrupted m = refl

  pub unsized_told : (ms : List Message) → map unsized (map (told_message size floor) ms) ≡ map (λ m. unsized (info_of m)) ms
  unsized_told [] = refl
  unsized_told (m ∷ ms) = λ i. unsized_by m.kind m i ∷ unsized_told ms i

  -- which is told of a Free alone as of one from a table.
  told_else : (k : LogKind) (m : Message) → (k ≡ does.Free → ⊥) → told_by size floor k m ≡ info_of m
  told_else does.Free m other = absurd (other refl)
  told_else does.Replace m other = refl
  told_else does.Link m other = refl
  told_else does.Skip m other = refl
  told_else does.Corrupted m other = refl

  -- What is told of entries, by the page that they make.

  entries_told : (ms : List Message) → All (λ m. m.kind ≡ does.Free → ⊥) ms → map told_of (map entry_of ms) ≡ map (told_message size floor) ms
  entries_told [] others = refl
  entries_told (m ∷ ms) others = λ i.
      sym (told_else m.kind m (All-contains (λ x. x.kind ≡ does.Free → ⊥) (m ∷ ms) m others (in_first m ms))) i
      ∷ entries_told ms (All-tail (λ x. x.kind ≡ does.Free → ⊥) m ms others) i

  module _ (page : ℕ) (b : Message) (ms : List Message) (of : b.page ≡ page) where
    abbrev links : List Message
    links = filter (λ m. is_link m.kind && nat_lt b.place m.place) ms

    no_frees : All (λ m. m.kind ≡ does.Free → ⊥) links
    no_frees = all_from_in (λ m. m.kind ≡ does.Free → ⊥) links (λ m there free.
        false≢true (ap (λ (k : LogKind). is_link k && nat_lt b.place m.place) (sym free) ∙ (from_filter (λ x. is_link x.kind && nat_lt b.place x.place) ms m there).1))

    begun_told : begins_page b.kind ≡ true → told_page size floor page (page_with (entries_from (Some b) ms)) ≡ map (told_message size floor) (entries_from (Some b) ms)
    begun_told begins = by b.kind refl begins where
      by : (k : LogKind) → b.kind ≡ k → begins_page k ≡ true
          → told_page size floor page (page_with (b ∷ (if is_replace b.kind then links else []))) ≡ map (told_message size floor) (b ∷ (if is_replace b.kind then links else []))
      by does.Replace is begun =
          let yes : is_replace b.kind ≡ true = ap is_replace is in
          ap (λ (t : Bool). told_page size floor page (if t then Present (entry_of b) (map entry_of (if t then links else [])) else Free (pos b.place) b.pointer)) yes
          ∙ (λ i. sym (told_else b.kind b (λ free. let both : does.Replace ≡ does.Free = sym is ∙ free in cc)) i ∷ entries_told links no_frees i)
          ∙ ap (λ (t : Bool). told_message size floor b ∷ map (told_message size floor) (if t then links else [])) (sym yes)
      by does.Free is begun =
          let no : is_replace b.kind ≡ false = ap is_replace is in
          ap (λ (t : Bool). told_page size floor page (if t then Present (entry_of b) (map entry_of (if t then links else [])) else Free (pos b.place) b.pointer)) no
          ∙ (λ i. record { lsn = pos b.place; pointer = b.pointer; log_size = free_length size floor (sym of i) b.place } ∷ [])
          ∙ ap (λ (k : LogKind). told_by size floor k b ∷ []) (sym is)
          ∙ ap (λ (t : Bool). told_message size floor b ∷ map (told_message size floor) (if t then links else [])) (sym no)
      by does.Link is begun = cc
      by does.Skip is begun = cc
      by does.Corrupted is begun = cc

  page_told : (H : History) (page : ℕ) → IsMade H → told_page size floor page (page_with (page_now H page)) ≡ map (told_message size floor) (page_now H page)
  unfolding table page_state
  page_told H page made = by (last_beginning (of_page H.messages top page)) (λ b. last_found (of_page H.messages top page) b
      (page_ascends H.messages top page (apart_ascends H.messages made.orderly.formed.apart))) where
        by : (o : Option Message) → ((b : Message) → o ≡ Some b → IsLast (of_page H.messages top page) b)
            → told_page size floor page (page_with (entries_from o (of_page H.messages top page))) ≡ map (told_message size floor) (entries_from o (of_page H.messages top page))
        by None found = refl
        by (Some b) found =
            let last = found b refl in
            begun_told page b (of_page H.messages top page) (from_page H.messages top page b last.there).1 last.begins

  -- What is told of a page of the session's table is what is told of the page's messages.

  abbrev page_or : Option PageState → Page
  page_or None = Uninitialized
  page_or (Some s) = page_of s

  got : (pages : List PageState) (page : ℕ) → get_or (map page_of pages) page Uninitialized ≡ page_or (slice_get pages page)
  got [] page = refl
  got (s ∷ pages) zero = refl
  got (s ∷ pages) (suc page) = got pages page

  told_or : (page : ℕ) (o : Option PageState) → told_state size floor page o ≡ told_page size floor page (page_or o)
  told_or page None = refl
  told_or page (Some s) = refl

  pub state_told : (H : History) (pages : List PageState) (page : ℕ) → IsMade H → IsTable (map page_of pages) H top
      → told_state size floor page (slice_get pages page) ≡ map (told_message size floor) (page_now H page)
  state_told H pages page made is =
      told_or page (slice_get pages page)
      ∙ ap (told_page size floor page) (sym (got pages page) ∙ is.states page)
      ∙ page_told H page made

-- what begins its page replaces all that it was
pub replacing_all : (k : LogKind) (old : List CacheInfo) → begins_page k ≡ true → replacing k old ≡ old
replacing_all does.Replace old begins = refl
replacing_all does.Free old begins = refl
replacing_all does.Link old begins = cc
replacing_all does.Skip old begins = refl
replacing_all does.Corrupted old begins = refl

-- A message comes to a history.

kept_all : {X : Type 0} (p : X → Bool) (xs : List X) → ((x : X) → Contains xs x → p x ≡ true) → filter p xs ≡ xs
kept_all p [] pass = refl
kept_all p (x ∷ xs) pass =
    ap (λ (b : Bool). cond b (x ∷ filter p xs) (filter p xs)) (pass x (in_first x xs)) ∙ ap (λ (l : List _). x ∷ l) (kept_all p xs (λ y there. pass y (in_rest x y xs there)))

module _ (H H' : History) (m : Message) (step : Step H (Completed m) H') where
  abbrev others : History
  others = without (m ∷ []) H'

  -- without it that has what it had,
  messages_were : others.messages ≡ H.messages
  unfolding Step
  messages_were =
      kept_without H H' m step (λ x. not (is_among (m ∷ []) x.place)) (ap (λ (b : Bool). not (b || false)) (eq-eqb m.place m.place refl))
      ∙ kept_all (λ x. not (is_among (m ∷ []) x.place)) H.messages (λ x there. ap (λ (b : Bool). not (b || false)) (ne_eqb m.place x.place (λ same. ⊎_elim
      (λ before. let low = step.lower x before in omega (arith, low, same))
      (λ after. let high = step.higher x after in omega (arith, high, same))
      (Contains-append_cases step.before step.after x (subst (λ (ms : List Message). Contains ms x) step.old there)))))

  pub was_there : (x : Message) → Contains others.messages x → Contains H.messages x
  was_there x there = subst (λ (ms : List Message). Contains ms x) messages_were there

  table_was : (cut page : ℕ) → table others cut page ≡ table H cut page
  unfolding table
  table_was cut page = ap (λ (ms : List Message). page_state (of_page ms cut page)) messages_were

  -- so what its page was is its former state.
  pub former_told : (size floor : ℕ) → IsMade H → IsFormerList others m.page (map (told_message size floor) (page_now H m.page))
  former_told size floor made = record {
    cut = top;
    past = λ x there. All-contains (λ y. y.place < top) H.messages x made.low (was_there x there);
    is = unsized_told size floor (page_now H m.page) ∙ ap (map (λ x. unsized (info_of x))) (sym (table_was top m.page));
  }
