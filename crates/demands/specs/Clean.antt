-- Clean means clean (RULES 9): what a clean editor puts in is what it took. Said once of anything that is asked one after the other
-- (`Asking`): requests, and the lines of runs; and runs are their lines (`AsLines`). No page is asked to be sound: whatever is accepted
-- was asked of a sound one.
use Rattle.std.specs.Prelude.{ℕ, Some, ◌≡◌, not, List, [], ◌∷◌, T}
use Rattle.page_record.specs.declared.Page.{Page}
use Rattle.page_record.specs.Holders.{is_editing, exc_clean, exc_value}
use Rattle.requests.specs.declared.Answer.{Answer}
use Rattle.lock.specs.Words.{putting_back}
use Rattle.decoding.specs.Decoding.{u64_at}
use Rattle.image.specs.Keeping.{restored_from}
use Rattle.demands.specs.History.{Asking, left, accepted}

module _ (way : Asking) where
  -- none of them is an accepted 9, 10, 29 or 30
  abbrev pub NoneBack : Page → List way.Ask → Type 0
  NoneBack p [] = Unit {0}
  NoneBack p (a ∷ rest) = T (not (accepted putting_back (way.event p a))) × NoneBack (way.page p a) rest

  -- from this page on, after `between`, `giving` is the first accepted 9, 10, 29 or 30
  pub record FirstBack (p : Page) (between : List way.Ask) (giving : way.Ask) : Type 0 where
    pub none_before : NoneBack p between
    pub back : T (accepted putting_back (way.event (left way p between) giving))

  -- an accepted 8 of a clean holder
  pub record CleanTaking (p : Page) (taking : way.Ask) : Type 0 where
    pub takes : T (accepted (8 ∷ []) (way.event p taking))
    pub clean : T (exc_clean p.exc_state)

  -- this value is what that 8 handed out and what storage held before it; and it is in storage again
  pub record AsTaken (p : Page) (taking : way.Ask) (value : ℕ) (again : Page) : Type 0 where
    pub handed : (way.event p taking).answer ≡ Answer.Withdrew value
    pub held : p.storage ≡ Some value
    pub holds : again.storage ≡ Some value

  -- wherever a clean holder takes the page, the next accepted 9, 10, 29 or 30 puts in what it took
  abbrev pub CleanMeansClean : Type 0
  CleanMeansClean =
      (p : Page) (taking : way.Ask) (between : List way.Ask) (giving : way.Ask)
      → CleanTaking p taking → FirstBack (way.page p taking) between giving
      → AsTaken p taking (way.event (left way (way.page p taking) between) giving).request.value
      (way.page (left way (way.page p taking) between) giving)

  -- beside a clean editor that has the page out the first of them puts in what it keeps: with nothing between, these four are accepted
  -- only with that ..
  abbrev pub CleanFirst : Type 0
  CleanFirst =
      (p : Page) (between : List way.Ask) (giving : way.Ask) → T (is_editing p.exc_state) → T (exc_clean p.exc_state)
      → FirstBack p between giving → (way.event (left way p between) giving).request.value ≡ exc_value p.exc_state

  -- .. and of one that was read it is the value at byte 40
  abbrev pub CleanRead : Type 0
  CleanRead =
      (l : List ℕ) (between : List way.Ask) (giving : way.Ask)
      → T (is_editing (restored_from l).page.exc_state) → T (exc_clean (restored_from l).page.exc_state)
      → FirstBack (restored_from l).page between giving
      → (way.event (left way (restored_from l).page between) giving).request.value ≡ u64_at 40 l

-- all of it
pub record Clean (way : Asking) : Type 0 where
  pub means_clean : CleanMeansClean way
  pub first : CleanFirst way
  pub read : CleanRead way
