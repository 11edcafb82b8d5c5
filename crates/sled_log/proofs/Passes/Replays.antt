-- What a pass makes of a snapshot, one segment after another.
use Rattle.std.proofs.Common.{◌≡◌, ◌∙◌, ◌+◌, ◌<◌, ℕ, Bool, true, false, ◌||◌, List, [], ◌∷◌, ◌++◌, length, map, take, drop, get_or, append_assoc, Option, Some, None, is_some, if◌then◌else◌, refl, sym, ap, subst}
use Rattle.std.specs.Option.{unwrap_or}
use Rattle.std.proofs.lemmas.List.{append-nil, length-append, map-append, take-append-drop, take_more}
use Rattle.sled_codec.specs.Snapshots.{Page, SnapshotModel, page_of, stable_place}
use Rattle.sled_core.specs.declared.iterator.scan.ScannedRecord.{ScannedRecord}
use Rattle.sled_core.specs.declared.iterator.Segment.{Segment}
use Rattle.sled_log.specs.declared.snapshot.pass.Pass.{Pass}
use Rattle.sled_log.specs.declared.snapshot.pass.Replay.{Replay}
use Rattle.sled_log.specs.Recovery.{Applied, AreClosed, Scanned, before_open, given, has_no_table, open_at, passed_all, table_of}
use Rattle.sled_log.specs.Passes.{HasMade, pass_of, stop_of, up_to_open}
use Rattle.sled_log.proofs.Passes.Behind.{behind}
use Rattle.sled_log.proofs.Passes.Tails.{closed_more}
use Rattle.sled_log.proofs.Passes.Outcomes.{given-append, no_table-append, passed_none, passed_some, stop_none, stop_some, table-append}

-- One more segment behind some in which no batch is open.
module _ (end : ℕ) where
  passed_append : (xs ys : List Scanned) → AreClosed end xs → passed_all end (xs ++ ys) ≡ passed_all end xs ++ passed_all end ys
  passed_append [] ys closed = refl
  passed_append (x ∷ xs) ys closed =
      passed_none end x (xs ++ ys) closed.0
      ∙ ap (λ (l : List ScannedRecord). before_open end x.met ++ l) (passed_append xs ys closed.1)
      ∙ sym (append_assoc (before_open end x.met) (passed_all end xs) (passed_all end ys))
      ∙ ap (λ (l : List ScannedRecord). l ++ passed_all end ys) (sym (passed_none end x xs closed.0))

  passed_one : (x : Scanned) → passed_all end (x ∷ []) ≡ before_open end x.met
  passed_one x = by (open_at end x.met) refl where
    by : (o : Option ℕ) → open_at end x.met ≡ o → passed_all end (x ∷ []) ≡ before_open end x.met
    by None is = passed_none end x [] is ∙ append-nil (before_open end x.met)
    by (Some place) is = passed_some end x [] place is

  stop_append : (xs ys : List Scanned) (last : Option (Segment × ℕ)) → AreClosed end xs → stop_of end last (xs ++ ys) ≡ stop_of end (stop_of end last xs) ys
  stop_append [] ys last closed = refl
  stop_append (x ∷ xs) ys last closed =
      stop_none end x last (xs ++ ys) closed.0
      ∙ stop_append xs ys (Some (x.segment, x.segment.place + x.stop)) closed.1
      ∙ ap (λ o. stop_of end o ys) (sym (stop_none end x last xs closed.0))

  -- where the pass stops in a segment
  abbrev pub stop_in : Scanned → Segment × ℕ
  stop_in x = (x.segment, unwrap_or (open_at end x.met) (x.segment.place + x.stop))

  stop_one : (x : Scanned) (last : Option (Segment × ℕ)) → stop_of end last (x ∷ []) ≡ Some (stop_in x)
  stop_one x last = by (open_at end x.met) refl where
    by : (o : Option ℕ) → open_at end x.met ≡ o → stop_of end last (x ∷ []) ≡ Some (stop_in x)
    by None is = stop_none end x last [] is ∙ ap (λ (o : Option ℕ). Some (x.segment, unwrap_or o (x.segment.place + x.stop))) (sym is)
    by (Some place) is = stop_some end x last [] place is ∙ ap (λ (o : Option ℕ). Some (x.segment, unwrap_or o (x.segment.place + x.stop))) (sym is)

  -- the first one with a batch that is open ends them
  pub up_to_here : (xs ys : List Scanned) (x : Scanned) → AreClosed end xs → is_some (open_at end x.met) ≡ true → up_to_open end (xs ++ x ∷ ys) ≡ xs ++ x ∷ []
  up_to_here [] ys x closed opened = ap (λ (b : Bool). if b then x ∷ [] else x ∷ up_to_open end ys) opened
  up_to_here (y ∷ xs) ys x closed opened =
      ap (λ (o : Option ℕ). if is_some o then y ∷ [] else y ∷ up_to_open end (xs ++ x ∷ ys)) closed.0 ∙ ap (λ (l : List Scanned). y ∷ l) (up_to_here xs ys x closed.1 opened)

  -- and where there is none, all are met
  pub up_to_all : (xs : List Scanned) → AreClosed end xs → up_to_open end xs ≡ xs
  up_to_all [] closed = refl
  up_to_all (x ∷ xs) closed = ap (λ (o : Option ℕ). if is_some o then x ∷ [] else x ∷ up_to_open end xs) closed.0 ∙ ap (λ (l : List Scanned). x ∷ l) (up_to_all xs closed.1)

  pub both_closed : (xs ys : List Scanned) → AreClosed end xs → AreClosed end ys → AreClosed end (xs ++ ys)
  both_closed [] ys closed others = others
  both_closed (x ∷ xs) ys closed others = (closed.0, both_closed xs ys closed.1 others)

  -- What is made of a snapshot by one more.
  module _ (first : SnapshotModel) (xs : List Scanned) (x : Scanned) (closed : AreClosed end xs) where
    abbrev least : ℕ
    least = stable_place first.stable

    abbrev before : List Applied
    before = given least (passed_all end xs)

    abbrev own : List Applied
    own = given least (before_open end x.met)

    given_more : given least (passed_all end (xs ++ x ∷ [])) ≡ before ++ own
    given_more = ap (given least) (passed_append xs (x ∷ []) closed ∙ ap (λ (l : List ScannedRecord). passed_all end xs ++ l) (passed_one x)) ∙ given-append least (passed_all end xs) (before_open end x.met)

    none_more : has_no_table (given least (passed_all end (xs ++ x ∷ []))) ≡ has_no_table before || has_no_table own
    none_more = ap has_no_table given_more ∙ no_table-append before own

    stop_more : (last : Option (Segment × ℕ)) → stop_of end last (xs ++ x ∷ []) ≡ Some (stop_in x)
    stop_more last = stop_append xs (x ∷ []) last closed ∙ stop_one x (stop_of end last xs)

    count_more : length (xs ++ x ∷ []) ≡ length xs + 1
    count_more = length-append xs (x ∷ [])

    module _ (r s : Replay) (made : HasMade end first xs r) (count : s.count ≡ r.count + 1) (stable : s.snapshot.stable_lsn ≡ r.snapshot.stable_lsn) (active : s.snapshot.active_segment ≡ r.snapshot.active_segment) where
      -- no table has a page of those before
      pub made_none : r.has_no_table ≡ true → s.has_no_table ≡ true → HasMade end first (xs ++ x ∷ []) s
      made_none was is = record {
        no_table = is ∙ sym (none_more ∙ ap (λ b. b || has_no_table own) (sym made.no_table ∙ was));
        pages = λ not. let both : true ≡ false = sym is ∙ not in cc;
        stop = λ not. let both : true ≡ false = sym is ∙ not in cc;
        count = count ∙ ap (λ n. n + 1) made.count ∙ sym count_more;
        stable = stable ∙ made.stable;
        active = active ∙ made.active;
      }

      -- or one of its own
      pub made_bad : r.has_no_table ≡ false → s.has_no_table ≡ true → (at : ℕ) → at ≡ stable_place r.snapshot.stable_lsn → has_no_table (given at (before_open end x.met)) ≡ true → HasMade end first (xs ++ x ∷ []) s
      made_bad was is at same bad =
          let there : has_no_table own ≡ true = ap (λ n. has_no_table (given n (before_open end x.met))) (sym (same ∙ ap stable_place made.stable)) ∙ bad in
          record {
            no_table = is ∙ sym (none_more ∙ ap (λ b. b || has_no_table own) (sym made.no_table ∙ was) ∙ there);
            pages = λ not. let both : true ≡ false = sym is ∙ not in cc;
            stop = λ not. let both : true ≡ false = sym is ∙ not in cc;
            count = count ∙ ap (λ n. n + 1) made.count ∙ sym count_more;
            stable = stable ∙ made.stable;
            active = active ∙ made.active;
          }

      -- all were applied
      pub made_more : r.has_no_table ≡ false → s.has_no_table ≡ false → (at : ℕ) → at ≡ stable_place r.snapshot.stable_lsn → has_no_table (given at (before_open end x.met)) ≡ false
          → map page_of s.snapshot.pt.items ≡ table_of (map page_of r.snapshot.pt.items) (given at (before_open end x.met)) → s.stop ≡ Some (stop_in x) → HasMade end first (xs ++ x ∷ []) s
      made_more was is at same fine pages stop =
          let here : at ≡ least = same ∙ ap stable_place made.stable in
          let none : has_no_table own ≡ false = ap (λ n. has_no_table (given n (before_open end x.met))) (sym here) ∙ fine in
          record {
            no_table = is ∙ sym (none_more ∙ ap (λ b. b || has_no_table own) (sym made.no_table ∙ was) ∙ none);
            pages = λ not.
                pages
                ∙ ap (λ n. table_of (map page_of r.snapshot.pt.items) (given n (before_open end x.met))) here
                ∙ ap (λ (ps : List Page). table_of ps own) (made.pages was)
                ∙ sym (ap (table_of first.pages) given_more ∙ table-append before own first.pages);
            stop = λ not. stop ∙ sym (stop_more None);
            count = count ∙ ap (λ n. n + 1) made.count ∙ sym count_more;
            stable = stable ∙ made.stable;
            active = active ∙ made.active;
          }

-- Segments up to an index, the one there, and those behind it.
module _ (end : ℕ) (xs : List Scanned) (qs : List Pass) (i : ℕ) (p : Pass) (lt : i < length qs) (is : p ≡ get_or qs i p) where
  abbrev so_far : List Scanned
  so_far = map pass_of (take i qs)

  abbrev left : List Scanned
  left = map pass_of (drop (i + 1) qs)

  at_index : map pass_of qs ≡ so_far ++ pass_of p ∷ left
  at_index =
      ap (map pass_of) (sym (take-append-drop i qs) ∙ ap (λ (l : List Pass). take i qs ++ l) (behind qs i p lt ∙ ap (λ (x : Pass). x ∷ drop (i + 1) qs) (sym is)))
      ∙ map-append pass_of (take i qs) (p ∷ drop (i + 1) qs)

  up_to_index : map pass_of (take (i + 1) qs) ≡ so_far ++ pass_of p ∷ []
  up_to_index = ap (map pass_of) (take_more qs i p lt ∙ ap (λ (x : Pass). take i qs ++ x ∷ []) (sym is)) ∙ map-append pass_of (take i qs) (p ∷ [])

  -- a batch is open in it
  pub tail_ends : AreClosed end (xs ++ so_far) → is_some (open_at end p.scan.met.items) ≡ true → up_to_open end (xs ++ map pass_of qs) ≡ (xs ++ so_far) ++ pass_of p ∷ []
  tail_ends closed opened =
      ap (λ (l : List Scanned). up_to_open end (xs ++ l)) at_index ∙ ap (up_to_open end) (sym (append_assoc xs so_far (pass_of p ∷ left))) ∙ up_to_here end (xs ++ so_far) left (pass_of p) closed opened

  -- or none
  pub tail_more : xs ++ map pass_of (take (i + 1) qs) ≡ (xs ++ so_far) ++ pass_of p ∷ []
  tail_more = ap (λ (l : List Scanned). xs ++ l) up_to_index ∙ sym (append_assoc xs so_far (pass_of p ∷ []))

  pub tail_closed : AreClosed end so_far → open_at end p.scan.met.items ≡ None → AreClosed end (map pass_of (take (i + 1) qs))
  tail_closed closed none = subst (AreClosed end) (sym up_to_index) (closed_more end so_far (pass_of p) closed none)

-- what was made is made by a pass that goes no further
pub made_open : (end : ℕ) (first : SnapshotModel) (xs : List Scanned) (r s : Replay) → s.snapshot ≡ r.snapshot → s.has_no_table ≡ r.has_no_table → s.stop ≡ r.stop → s.count ≡ r.count → HasMade end first xs r → HasMade end first xs s
made_open end first xs r s snapshot no_table stop count made = record {
  no_table = no_table ∙ made.no_table;
  pages = λ not. ap (λ t. map page_of t.pt.items) snapshot ∙ made.pages (sym no_table ∙ not);
  stop = λ not. stop ∙ made.stop (sym no_table ∙ not);
  count = count ∙ made.count;
  stable = ap (λ t. t.stable_lsn) snapshot ∙ made.stable;
  active = ap (λ t. t.active_segment) snapshot ∙ made.active;
}
