-- Two pages that differ in the order of their readers alone, and two outcomes that do.
use Rattle.std.specs.Prelude.{◌≡◌, T}
use Rattle.laws.specs.Lists.{Rearranged}
use Rattle.readers.specs.Listed.{live}
use Rattle.page_record.specs.declared.Page.{Page}
use Rattle.page_record.specs.Pages.{head_of}
use Rattle.soundness.specs.Soundness.{sound_of}
use Rattle.lock.specs.declared.Outcome.{Outcome}

-- both sound, with one head, and every test passes as often in the one list of readers as in the other
pub record Alike (p p' : Page) : Type 0 where
  pub sound : T (sound_of p)
  pub sound' : T (sound_of p')
  pub head : head_of p ≡ head_of p'
  pub readers : Rearranged (live p.readers) (live p'.readers)

-- one answer, and such two pages
pub record AnsweredAlike (o o' : Outcome) : Type 0 where
  pub answer : o.answer ≡ o'.answer
  pub page : Alike o.page o'.page
