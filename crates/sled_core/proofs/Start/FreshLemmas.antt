-- An empty device is ready for a log in which nothing happened.
use Rattle.std.proofs.Common.{◌≡◌, ℕ, ℤ, List, [], refl, arith, inl, Some, None}
use Rattle.std.specs.List.{Contains}
use Rattle.sled_codec.specs.History.{Message, no_history, page_state, of_page, table}
use Rattle.sled_codec.specs.PageTables.{IsTable}
use Rattle.sled_codec.specs.Snapshots.{empty_model}
use Rattle.sled_store.specs.Device.{State, at_rest}
use Rattle.sled_store.proofs.Histories.TableParts.{from_table}
use Rattle.sled_store.proofs.Segments.Elements.{in_nothing}
use Rattle.sled_core.specs.declared.iterator.Segment.{Segment}
use Rattle.sled_core.specs.Ready.{IsReady}
use Rattle.sled_core.specs.inside.Reached.{StandsTo, StandsActive}
use Rattle.sled_core.specs.inside.Scan.{IsFoundSegment}
use Rattle.sled_core.specs.Tail.{least_place}
use Rattle.sled_core.proofs.Read.FoundLemmas.{found_there, none_ordered, zero_mod}

-- before any message the table is empty
pub no_pages : (cut : ℕ) → IsTable [] no_history cut
unfolding table of_page page_state
no_pages cut = record { states = λ page. refl; begun = λ page. (λ lt. absurd (omega (arith, lt)), λ has. absurd (let lt = has.there.1 in omega (arith, lt))) }

pub no_entry : (cut page : ℕ) (m : Message) → Contains (table no_history cut page) m → ⊥
no_entry cut page m there = in_nothing m (from_table no_history cut page m there).0

abbrev pub ready_fresh : (sum : List ℕ → ℕ) (size : ℕ) (device : State) → device.log ≡ at_rest [] → ((n : ℤ) → device.snapshots.file n ≡ None) → IsReady sum size device empty_model no_history
ready_fresh sum size device empty none = record {
  log = [];
  settled = empty;
  first = empty_model;
  begins = inl (none, refl);
  same_place = refl;
  same_pages = refl;
  table = no_pages 0;
  below = λ k d lt. absurd (omega (arith, lt));
  apart = tt;
  batches = λ k d lt. absurd (omega (arith, lt));
  file = record {
    begins = zero_mod size;
    older = λ page m there. absurd (no_entry 0 page m there);
  };
}

-- Nothing is found of an empty file, and that is all of such a log.
module _ (sum : List ℕ → ℕ) (size : ℕ) where
  none_found : (least : ℕ) (x : Segment) → IsFoundSegment sum size [] least x → ⊥
  none_found least x found = let there = found_there sum size [] least x found in omega (arith, there)

  pub nothing_stands : StandsTo sum size [] no_history 0 empty_model 0
  nothing_stands = record {
    ordering = [];
    numbers = none_ordered sum size [] (least_place size empty_model) (none_found (least_place size empty_model));
    scanned = [];
    reads = tt;
    marks = λ x there. absurd (in_nothing x there);
    truth = λ t x there. absurd (in_nothing t there);
    caps = λ t there. absurd (in_nothing t there);
    not_below = omega arith;
    passes = omega arith;
    marks_below = λ x there. absurd (in_nothing x there);
    placed = λ m there. absurd (in_nothing m there);
    batched = λ b there. absurd (in_nothing b there);
    closed = λ b there. absurd (in_nothing b there);
    from = 0;
    from_low = omega arith;
    from_high = omega arith;
    tail_from = omega arith;
    gapless = λ z aligned low under. absurd (omega (arith, under));
    needed = λ cut low high page m there. absurd (no_entry cut page m there);
  }

  pub nothing_active : StandsActive sum size [] empty_model no_history
  nothing_active = record {
    stands = nothing_stands;
    only = λ x found. absurd (none_found (least_place size empty_model) x found);
    going = λ slot is. absurd (let both : None ≡ Some slot = is in cc);
  }
