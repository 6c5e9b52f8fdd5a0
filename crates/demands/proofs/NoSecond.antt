-- No second answer: for each public function of every crate, two results that both meet its contract are one, the bytes of a
-- lent buffer at exit included. Each lemma speaks of the contract itself (`Post`, as the checker has it), so a promise that
-- is weakened, or dropped, fails here. That of `apply` is taken as the logic has it: `apply_says` is
-- its lemma's other half, that the contract is the fact of two equations. Assumes nothing.
use mathlib.Core.Path.{◌≡◌, refl, sym, ◌∙◌}
use seplogic.Ra.Ura.{Ura}
use base.Logic.{SProp}
use prog.Memory.{Memory}
use prog.Routine.{Routine}
use types.Logic.{Logic}
use contract.Lifetimes.{Lfts}
use contract.Monad.{Fun, fact}
use denote.MutBor.{MutBor}
use denote.Triple.Both.{Both}
use Rattle.kinds.proofs.awaited.Reads as awaited_contract
use Rattle.kinds.proofs.claimable.Reads as claimable_contract
use Rattle.kinds.proofs.claimed.Reads as claimed_contract
use Rattle.kinds.proofs.flag_number.Reads as flag_number_contract
use Rattle.kinds.proofs.is_available.Reads as is_available_contract
use Rattle.kinds.proofs.is_unmapped.Reads as is_unmapped_contract
use Rattle.kinds.proofs.lock_flag.Reads as lock_flag_contract
use Rattle.kinds.proofs.not_loading.Reads as not_loading_contract
use Rattle.kinds.proofs.open_to_readers.Reads as open_to_readers_contract
use Rattle.kinds.proofs.released.Reads as released_contract
use Rattle.kinds.proofs.unawaited.Reads as unawaited_contract
use Rattle.kinds.proofs.unclaimed.Reads as unclaimed_contract
use Rattle.kinds.proofs.writeback_done.Reads as writeback_done_contract
use Rattle.kinds.proofs.flags.U8FromFlag.from.Reads as u8_from_flag_contract
use Rattle.kinds.proofs.bucket_from.Reads as bucket_from_contract
use Rattle.kinds.proofs.bucket_number.Reads as bucket_number_contract
use Rattle.kinds.proofs.exc_from.Reads as exc_from_contract
use Rattle.kinds.proofs.exc_number.Reads as exc_number_contract
use Rattle.kinds.proofs.flag_from.Reads as flag_from_contract
use Rattle.kinds.proofs.numbers.FlagTryFromU8.try_from.Reads as flag_try_from_u8_contract
use Rattle.kinds.proofs.loading_from.Reads as loading_from_contract
use Rattle.kinds.proofs.loading_number.Reads as loading_number_contract
use Rattle.kinds.proofs.phase_from.Reads as phase_from_contract
use Rattle.kinds.proofs.storage_from.Reads as storage_from_contract
use Rattle.kinds.proofs.storage_number.Reads as storage_number_contract
use Rattle.kinds.proofs.writeback_from.Reads as writeback_from_contract
use Rattle.kinds.proofs.writeback_number.Reads as writeback_number_contract
use Rattle.kinds.proofs.phase_number.Reads as phase_number_contract
use Rattle.readers.proofs.same.Reads as same_contract
use Rattle.readers.proofs.blank.Reads as blank_contract
use Rattle.readers.proofs.empty.Reads as empty_contract
use Rattle.readers.proofs.live.Reads as live_contract
use Rattle.readers.proofs.find.Reads as find_contract
use Rattle.readers.proofs.count_at.Reads as count_at_contract
use Rattle.readers.proofs.count_in.Reads as count_in_contract
use Rattle.readers.proofs.blank_past.Reads as blank_past_contract
use Rattle.readers.proofs.push.Reads as push_contract
use Rattle.readers.proofs.put.Reads as put_contract
use Rattle.readers.proofs.remove.Reads as remove_contract
use Rattle.page_record.specs.declared.Page.{Page}
use Rattle.page_record.proofs.exc_bucket.Reads as exc_bucket_contract
use Rattle.page_record.proofs.exc_visited.Reads as exc_visited_contract
use Rattle.page_record.proofs.holds.Reads as holds_contract
use Rattle.page_record.proofs.is_await.Reads as is_await_contract
use Rattle.page_record.proofs.is_before_loading.Reads as is_before_loading_contract
use Rattle.page_record.proofs.is_claim.Reads as is_claim_contract
use Rattle.page_record.proofs.is_editing.Reads as is_editing_contract
use Rattle.page_record.proofs.is_loading.Reads as is_loading_contract
use Rattle.page_record.proofs.is_locked.Reads as is_locked_contract
use Rattle.page_record.proofs.is_stored.Reads as is_stored_contract
use Rattle.page_record.proofs.loading_bucket.Reads as loading_bucket_contract
use Rattle.page_record.proofs.no_exc.Reads as no_exc_contract
use Rattle.page_record.proofs.no_load.Reads as no_load_contract
use Rattle.page_record.proofs.no_writeback.Reads as no_writeback_contract
use Rattle.page_record.proofs.valid_bucket.Reads as valid_bucket_contract
use Rattle.page_record.proofs.fresh.Reads as fresh_contract
use Rattle.page_record.proofs.head_of.Reads as head_of_contract
use Rattle.page_record.proofs.page_of.Reads as page_of_contract
use Rattle.page_record.proofs.ref_at.Reads as ref_at_contract
use Rattle.rules.proofs.exc_state_invariants.Reads as exc_state_invariants_contract
use Rattle.rules.proofs.flag_invariant.Reads as flag_invariant_contract
use Rattle.rules.proofs.loading_state_invariants.Reads as loading_state_invariants_contract
use Rattle.rules.proofs.storage_some_invariant.Reads as storage_some_invariant_contract
use Rattle.rules.proofs.writeback_state_invariants.Reads as writeback_state_invariants_contract
use Rattle.rules.proofs.limits_kept.Reads as limits_kept_contract
use Rattle.rules.proofs.counts_under.Reads as counts_under_contract
use Rattle.rules.proofs.ref_count_invariant.Reads as ref_count_invariant_contract
use Rattle.rules.proofs.shared_storage_invariant.Reads as shared_storage_invariant_contract
use Rattle.soundness.proofs.broken_rule.Reads as broken_rule_contract
use Rattle.soundness.proofs.is_sound.Reads as is_sound_contract
use Rattle.soundness.proofs.sound.Reads as sound_contract
use Rattle.census.proofs.census.Reads as census_contract
use Rattle.requests.specs.declared.{Answer.Answer, Request.Request}
use Rattle.requests.proofs.answer_number.Reads as answer_number_contract
use Rattle.requests.proofs.answer_value.Reads as answer_value_contract
use Rattle.requests.proofs.carries.Reads as carries_contract
use Rattle.requests.proofs.refusal_number.Reads as refusal_number_contract
use Rattle.requests.proofs.judge.Reads as judge_contract
use Rattle.heads.proofs.refuse.Reads as refuse_contract
use Rattle.heads.proofs.accept.Reads as accept_contract
use Rattle.heads.proofs.leave_writeback.Reads as leave_writeback_contract
use Rattle.heads.proofs.leave_exc.Reads as leave_exc_contract
use Rattle.heads.proofs.deposit_exc.Reads as deposit_exc_contract
use Rattle.heads.proofs.withdraw_exc.Reads as withdraw_exc_contract
use Rattle.heads.proofs.leave_loading.Reads as leave_loading_contract
use Rattle.heads.proofs.deposit_loading.Reads as deposit_loading_contract
use Rattle.heads.proofs.withdraw_loading.Reads as withdraw_loading_contract
use Rattle.heads.proofs.number_at.Reads as number_at_contract
use Rattle.heads.proofs.with_number.Reads as with_number_contract
use Rattle.heads.proofs.lower.Reads as lower_contract
use Rattle.heads.proofs.lower_if.Reads as lower_if_contract
use Rattle.heads.proofs.may_put_in.Reads as may_put_in_contract
use Rattle.heads.proofs.value_of.Reads as value_of_contract
use Rattle.editing.proofs.bucketless_claim.Reads as bucketless_claim_contract
use Rattle.editing.proofs.claim_to_pending.Reads as claim_to_pending_contract
use Rattle.editing.proofs.shared_to_claim.Reads as shared_to_claim_contract
use Rattle.editing.proofs.deposit_downgrade_exc_lock.Reads as deposit_downgrade_exc_lock_contract
use Rattle.editing.proofs.deposit_downgrade_exc_lock_to_claim.Reads as deposit_downgrade_exc_lock_to_claim_contract
use Rattle.editing.proofs.exc_inc_count.Reads as exc_inc_count_contract
use Rattle.editing.proofs.take_exc_lock_check_ref_count.Reads as take_exc_lock_check_ref_count_contract
use Rattle.editing.proofs.take_exc_lock_finish_writeback.Reads as take_exc_lock_finish_writeback_contract
use Rattle.editing.proofs.withdraw_take_exc_lock_finish.Reads as withdraw_take_exc_lock_finish_contract
use Rattle.editing.proofs.release_writeback.Reads as release_writeback_contract
use Rattle.editing.proofs.take_writeback.Reads as take_writeback_contract
use Rattle.reading.proofs.deposit_loading_to_done.Reads as deposit_loading_to_done_contract
use Rattle.reading.proofs.deposit_loading_to_shared.Reads as deposit_loading_to_shared_contract
use Rattle.reading.proofs.loading_inc_count.Reads as loading_inc_count_contract
use Rattle.reading.proofs.obtain_loading.Reads as obtain_loading_contract
use Rattle.reading.proofs.obtain_loading_no_refcount.Reads as obtain_loading_no_refcount_contract
use Rattle.reading.proofs.withdraw_alloc.Reads as withdraw_alloc_contract
use Rattle.reading.proofs.withdraw_alloc_no_refcount.Reads as withdraw_alloc_no_refcount_contract
use Rattle.reading.proofs.shared_check_exc.Reads as shared_check_exc_contract
use Rattle.reading.proofs.shared_check_loading.Reads as shared_check_loading_contract
use Rattle.reading.proofs.shared_dec_count.Reads as shared_dec_count_contract
use Rattle.reading.proofs.shared_inc_count.Reads as shared_inc_count_contract
use Rattle.returning.proofs.claim_to_shared.Reads as claim_to_shared_contract
use Rattle.returning.proofs.discard_claim.Reads as discard_claim_contract
use Rattle.returning.proofs.pending_to_claim.Reads as pending_to_claim_contract
use Rattle.returning.proofs.cancel_exc_lock_to_claim.Reads as cancel_exc_lock_to_claim_contract
use Rattle.returning.proofs.deposit_exc_lock_to_done.Reads as deposit_exc_lock_to_done_contract
use Rattle.returning.proofs.deposit_exc_lock_to_unmapped.Reads as deposit_exc_lock_to_unmapped_contract
use Rattle.steps.proofs.sought_by.Reads as sought_by_contract
use Rattle.steps.proofs.decide.Reads as decide_contract
use Rattle.lock.specs.Step.{step_of}
use Rattle.lock.proofs.refuse.Reads as refuse_page_contract
use Rattle.lock.proofs.take_step.Reads as take_step_contract
use Rattle.lock.proofs.step.Reads as step_contract
use Rattle.lock.specs.contracts.apply as apply_contract
use Rattle.lock.proofs.lend.Reads as lend_contract
use Rattle.wire.proofs.is_blank.Reads as is_blank_contract
use Rattle.wire.proofs.byte_at.Reads as byte_at_contract
use Rattle.wire.proofs.read_u64.Reads as read_u64_contract
use Rattle.wire.proofs.u64_at.Reads as u64_at_contract
use Rattle.wire.proofs.read.Reads as read_contract
use Rattle.wire.proofs.write_u64.Reads as write_u64_contract
use Rattle.wire.proofs.put.Reads as put_line_contract
use Rattle.wire.proofs.write.Reads as write_contract
use Rattle.wire.proofs.write_answer.Reads as write_answer_contract
use Rattle.encoding.proofs.phase_value.Reads as phase_value_contract
use Rattle.encoding.proofs.encode.Reads as encode_contract
use Rattle.decoding.proofs.decode.Reads as decode_contract
use Rattle.image.proofs.read.Reads as read_image_contract
use Rattle.image.proofs.write.Reads as write_image_contract
use Rattle.table.proofs.entry.Reads as entry_contract
use Rattle.table.proofs.step_by_table.Reads as step_by_table_contract
use Rattle.replay.proofs.run.Reads as run_contract
use Rattle.replay.proofs.reply.Reads as reply_contract
use Rattle.pieces.proofs.empty.Reads as empty_carry_contract
use Rattle.pieces.proofs.take.Reads as take_contract
use Rattle.pieces.proofs.finish.Reads as finish_contract

-- ---- what is stated
-- a contract says of the lifetimes, the arguments at entry, the result and the arguments at exit whether they meet it
abbrev pub Contract : Type 0 → Type 0 → Type 0 → Type 0 → Type 1
Contract K I R O = K → I → R → O → Type 0

-- at most one result meets it
abbrev pub AtMostOne : {K I R O : Type 0} → Contract K I R O → Type 0
AtMostOne {K} {I} {R} {O} Post = (κ : K) (i : I) (o o' : O) (x y : R) → Post κ i x o → Post κ i y o' → x ≡ y

-- at most one result, and one content of what is lent, at exit
abbrev pub AtMostOneWith : {K I R O B : Type 0} → (O → B) → Contract K I R O → Type 0
AtMostOneWith {K} {I} {R} {O} lent Post = (κ : K) (i : I) (o o' : O) (x y : R) → Post κ i x o → Post κ i y o'
    → (x ≡ y) × (lent o ≡ lent o')

-- at most one content of what is answered, where that is a reference
abbrev pub AtMostOneSeen : {K I R O B : Type 0} → (R → B) → Contract K I R O → Type 0
AtMostOneSeen {K} {I} {R} {O} seen Post = (κ : K) (i : I) (o o' : O) (x y : R) → Post κ i x o → Post κ i y o' → seen x ≡ seen y

-- ---- the four laws
-- an equation
pub equation : {K I R O : Type 0} (f : I → R) → AtMostOne (λ (κ : K) (i : I) (r : R) (o : O). r ≡ f i)
equation f κ i o o' x y d e = d ∙ sym e

-- an equation for the result and one for what is lent, at exit
pub equations : {K I R O B : Type 0} (lent : O → B) (f : I → R) (g : I → B)
    → AtMostOneWith lent (λ (κ : K) (i : I) (r : R) (o : O). (r ≡ f i) × (lent o ≡ g i))
equations lent f g κ i o o' x y d e = (d.0 ∙ sym e.0, d.1 ∙ sym e.1)

-- an equation for what is lent alone, where nothing is answered
pub filling : {K I O B : Type 0} (lent : O → B) (g : I → B) → AtMostOneWith lent (λ (κ : K) (i : I) (r : Unit {0}) (o : O). lent o ≡ g i)
filling lent g κ i o o' x y d e = (refl, d ∙ sym e)

-- an equation for the content of what is answered
pub content : {K I R O B : Type 0} (seen : R → B) (f : I → B) → AtMostOneSeen seen (λ (κ : K) (i : I) (r : R) (o : O). seen r ≡ f i)
content seen f κ i o o' x y d e = d ∙ sym e

-- ---- kinds
pub awaited : AtMostOne awaited_contract.Post
awaited = equation _

pub claimable : AtMostOne claimable_contract.Post
claimable = equation _

pub claimed : AtMostOne claimed_contract.Post
claimed = equation _

pub flag_number : AtMostOne flag_number_contract.Post
flag_number = equation _

pub u8_from_flag : AtMostOne u8_from_flag_contract.Post
u8_from_flag = equation _

pub is_available : AtMostOne is_available_contract.Post
is_available = equation _

pub is_unmapped : AtMostOne is_unmapped_contract.Post
is_unmapped = equation _

pub lock_flag : AtMostOne lock_flag_contract.Post
lock_flag = equation _

pub not_loading : AtMostOne not_loading_contract.Post
not_loading = equation _

pub open_to_readers : AtMostOne open_to_readers_contract.Post
open_to_readers = equation _

pub released : AtMostOne released_contract.Post
released = equation _

pub unawaited : AtMostOne unawaited_contract.Post
unawaited = equation _

pub unclaimed : AtMostOne unclaimed_contract.Post
unclaimed = equation _

pub writeback_done : AtMostOne writeback_done_contract.Post
writeback_done = equation _

pub bucket_from : AtMostOne bucket_from_contract.Post
bucket_from = equation _

pub bucket_number : AtMostOne bucket_number_contract.Post
bucket_number = equation _

pub exc_from : AtMostOne exc_from_contract.Post
exc_from = equation _

pub exc_number : AtMostOne exc_number_contract.Post
exc_number = equation _

pub flag_from : AtMostOne flag_from_contract.Post
flag_from = equation _

pub flag_try_from_u8 : AtMostOne flag_try_from_u8_contract.Post
flag_try_from_u8 = equation _

pub loading_from : AtMostOne loading_from_contract.Post
loading_from = equation _

pub loading_number : AtMostOne loading_number_contract.Post
loading_number = equation _

pub phase_from : AtMostOne phase_from_contract.Post
phase_from = equation _

pub storage_from : AtMostOne storage_from_contract.Post
storage_from = equation _

pub storage_number : AtMostOne storage_number_contract.Post
storage_number = equation _

pub writeback_from : AtMostOne writeback_from_contract.Post
writeback_from = equation _

pub writeback_number : AtMostOne writeback_number_contract.Post
writeback_number = equation _

pub phase_number : AtMostOne phase_number_contract.Post
phase_number = equation _

-- ---- readers
pub same : AtMostOne same_contract.Post
same = equation _

pub blank : AtMostOne blank_contract.Post
blank = equation _

pub empty : AtMostOne empty_contract.Post
empty = equation _

pub live : AtMostOneSeen (λ r. r.now) live_contract.Post
live = content (λ r. r.now) _

pub find : AtMostOne find_contract.Post
find = equation _

pub count_at : AtMostOne count_at_contract.Post
count_at = equation _

pub count_in : AtMostOne count_in_contract.Post
count_in = equation _

pub blank_past : AtMostOne blank_past_contract.Post
blank_past = equation _

pub push : AtMostOne push_contract.Post
push = equation _

pub put : AtMostOne put_contract.Post
put = equation _

pub remove : AtMostOne remove_contract.Post
remove = equation _

-- ---- page_record
pub exc_bucket : AtMostOne exc_bucket_contract.Post
exc_bucket = equation _

pub exc_visited : AtMostOne exc_visited_contract.Post
exc_visited = equation _

pub holds : AtMostOne holds_contract.Post
holds = equation _

pub is_await : AtMostOne is_await_contract.Post
is_await = equation _

pub is_before_loading : AtMostOne is_before_loading_contract.Post
is_before_loading = equation _

pub is_claim : AtMostOne is_claim_contract.Post
is_claim = equation _

pub is_editing : AtMostOne is_editing_contract.Post
is_editing = equation _

pub is_loading : AtMostOne is_loading_contract.Post
is_loading = equation _

pub is_locked : AtMostOne is_locked_contract.Post
is_locked = equation _

pub is_stored : AtMostOne is_stored_contract.Post
is_stored = equation _

pub loading_bucket : AtMostOne loading_bucket_contract.Post
loading_bucket = equation _

pub no_exc : AtMostOne no_exc_contract.Post
no_exc = equation _

pub no_load : AtMostOne no_load_contract.Post
no_load = equation _

pub no_writeback : AtMostOne no_writeback_contract.Post
no_writeback = equation _

pub valid_bucket : AtMostOne valid_bucket_contract.Post
valid_bucket = equation _

pub fresh : AtMostOne fresh_contract.Post
fresh = equation _

pub head_of : AtMostOne head_of_contract.Post
head_of = equation _

pub page_of : AtMostOne page_of_contract.Post
page_of = equation _

pub ref_at : AtMostOne ref_at_contract.Post
ref_at = equation _

-- ---- rules
pub exc_state_invariants : AtMostOne exc_state_invariants_contract.Post
exc_state_invariants = equation _

pub flag_invariant : AtMostOne flag_invariant_contract.Post
flag_invariant = equation _

pub loading_state_invariants : AtMostOne loading_state_invariants_contract.Post
loading_state_invariants = equation _

pub storage_some_invariant : AtMostOne storage_some_invariant_contract.Post
storage_some_invariant = equation _

pub writeback_state_invariants : AtMostOne writeback_state_invariants_contract.Post
writeback_state_invariants = equation _

pub limits_kept : AtMostOne limits_kept_contract.Post
limits_kept = equation _

pub counts_under : AtMostOne counts_under_contract.Post
counts_under = equation _

pub ref_count_invariant : AtMostOne ref_count_invariant_contract.Post
ref_count_invariant = equation _

pub shared_storage_invariant : AtMostOne shared_storage_invariant_contract.Post
shared_storage_invariant = equation _

-- ---- soundness
pub broken_rule : AtMostOne broken_rule_contract.Post
broken_rule = equation _

pub is_sound : AtMostOne is_sound_contract.Post
is_sound = equation _

pub sound : AtMostOne sound_contract.Post
sound = equation _

-- ---- census
pub census : AtMostOne census_contract.Post
census = equation _

-- ---- requests
pub answer_number : AtMostOne answer_number_contract.Post
answer_number = equation _

pub answer_value : AtMostOne answer_value_contract.Post
answer_value = equation _

pub carries : AtMostOne carries_contract.Post
carries = equation _

pub refusal_number : AtMostOne refusal_number_contract.Post
refusal_number = equation _

pub judge : AtMostOne judge_contract.Post
judge = equation _

-- ---- heads
pub refuse : AtMostOne refuse_contract.Post
refuse = equation _

pub accept : AtMostOne accept_contract.Post
accept = equation _

pub leave_writeback : AtMostOne leave_writeback_contract.Post
leave_writeback = equation _

pub leave_exc : AtMostOne leave_exc_contract.Post
leave_exc = equation _

pub deposit_exc : AtMostOne deposit_exc_contract.Post
deposit_exc = equation _

pub withdraw_exc : AtMostOne withdraw_exc_contract.Post
withdraw_exc = equation _

pub leave_loading : AtMostOne leave_loading_contract.Post
leave_loading = equation _

pub deposit_loading : AtMostOne deposit_loading_contract.Post
deposit_loading = equation _

pub withdraw_loading : AtMostOne withdraw_loading_contract.Post
withdraw_loading = equation _

pub number_at : AtMostOne number_at_contract.Post
number_at = equation _

pub with_number : AtMostOne with_number_contract.Post
with_number = equation _

pub lower : AtMostOne lower_contract.Post
lower = equation _

pub lower_if : AtMostOne lower_if_contract.Post
lower_if = equation _

pub may_put_in : AtMostOne may_put_in_contract.Post
may_put_in = equation _

pub value_of : AtMostOne value_of_contract.Post
value_of = equation _

-- ---- editing
pub bucketless_claim : AtMostOne bucketless_claim_contract.Post
bucketless_claim = equation _

pub claim_to_pending : AtMostOne claim_to_pending_contract.Post
claim_to_pending = equation _

pub shared_to_claim : AtMostOne shared_to_claim_contract.Post
shared_to_claim = equation _

pub deposit_downgrade_exc_lock : AtMostOne deposit_downgrade_exc_lock_contract.Post
deposit_downgrade_exc_lock = equation _

pub deposit_downgrade_exc_lock_to_claim : AtMostOne deposit_downgrade_exc_lock_to_claim_contract.Post
deposit_downgrade_exc_lock_to_claim = equation _

pub exc_inc_count : AtMostOne exc_inc_count_contract.Post
exc_inc_count = equation _

pub take_exc_lock_check_ref_count : AtMostOne take_exc_lock_check_ref_count_contract.Post
take_exc_lock_check_ref_count = equation _

pub take_exc_lock_finish_writeback : AtMostOne take_exc_lock_finish_writeback_contract.Post
take_exc_lock_finish_writeback = equation _

pub withdraw_take_exc_lock_finish : AtMostOne withdraw_take_exc_lock_finish_contract.Post
withdraw_take_exc_lock_finish = equation _

pub release_writeback : AtMostOne release_writeback_contract.Post
release_writeback = equation _

pub take_writeback : AtMostOne take_writeback_contract.Post
take_writeback = equation _

-- ---- reading
pub deposit_loading_to_done : AtMostOne deposit_loading_to_done_contract.Post
deposit_loading_to_done = equation _

pub deposit_loading_to_shared : AtMostOne deposit_loading_to_shared_contract.Post
deposit_loading_to_shared = equation _

pub loading_inc_count : AtMostOne loading_inc_count_contract.Post
loading_inc_count = equation _

pub obtain_loading : AtMostOne obtain_loading_contract.Post
obtain_loading = equation _

pub obtain_loading_no_refcount : AtMostOne obtain_loading_no_refcount_contract.Post
obtain_loading_no_refcount = equation _

pub withdraw_alloc : AtMostOne withdraw_alloc_contract.Post
withdraw_alloc = equation _

pub withdraw_alloc_no_refcount : AtMostOne withdraw_alloc_no_refcount_contract.Post
withdraw_alloc_no_refcount = equation _

pub shared_check_exc : AtMostOne shared_check_exc_contract.Post
shared_check_exc = equation _

pub shared_check_loading : AtMostOne shared_check_loading_contract.Post
shared_check_loading = equation _

pub shared_dec_count : AtMostOne shared_dec_count_contract.Post
shared_dec_count = equation _

pub shared_inc_count : AtMostOne shared_inc_count_contract.Post
shared_inc_count = equation _

-- ---- returning
pub claim_to_shared : AtMostOne claim_to_shared_contract.Post
claim_to_shared = equation _

pub discard_claim : AtMostOne discard_claim_contract.Post
discard_claim = equation _

pub pending_to_claim : AtMostOne pending_to_claim_contract.Post
pending_to_claim = equation _

pub cancel_exc_lock_to_claim : AtMostOne cancel_exc_lock_to_claim_contract.Post
cancel_exc_lock_to_claim = equation _

pub deposit_exc_lock_to_done : AtMostOne deposit_exc_lock_to_done_contract.Post
deposit_exc_lock_to_done = equation _

pub deposit_exc_lock_to_unmapped : AtMostOne deposit_exc_lock_to_unmapped_contract.Post
deposit_exc_lock_to_unmapped = equation _

-- ---- steps
pub sought_by : AtMostOne sought_by_contract.Post
sought_by = equation _

pub decide : AtMostOne decide_contract.Post
decide = equation _

-- ---- lock
pub refuse_page : AtMostOne refuse_page_contract.Post
refuse_page = equation _

pub take_step : AtMostOne take_step_contract.Post
take_step = equation _

pub step : AtMostOne step_contract.Post
step = equation _

-- what `apply` promises is, as a proposition of the logic, just the fact of two equations, of the answer and of the lent page at
-- exit
abbrev Applied : Unit {0} → Page × Request → Answer → Page → Type 0
Applied κ i r o = (r ≡ (step_of i.0 i.1).answer) × (o ≡ (step_of i.0 i.1).page)

pub apply_says : {M : Type 1} {𝓤 : Ura M} (𝓛 : Logic 𝓤) (κs : Lfts 1)
    (at_mem : Memory → SProp 𝓤) (run : Routine → Fun 𝓤) (p : MutBor Page) (q : Request) (lent : Both _ _) (asked : Both _ _) (r : Answer)
    → apply_contract.ensures-1 𝓛 κs at_mem run p q lent asked r
    ≡ fact 𝓤 (Applied tt (lent.entry.now, q) r lent.exit.now)
apply_says 𝓛 κs at_mem run p q lent asked r = refl

pub apply : AtMostOneWith (λ o. o) Applied
apply = equations (λ o. o) _ _

pub lend : AtMostOne lend_contract.Post
lend = equation _

-- ---- wire
pub is_blank : AtMostOne is_blank_contract.Post
is_blank = equation _

pub byte_at : AtMostOne byte_at_contract.Post
byte_at = equation _

pub read_u64 : AtMostOne read_u64_contract.Post
read_u64 = equation _

pub u64_at : AtMostOne u64_at_contract.Post
u64_at = equation _

pub write_u64 : AtMostOneWith (λ o. o.0.now) write_u64_contract.Post
write_u64 = filling (λ o. o.0.now) _

pub put_line : AtMostOneWith (λ o. o.0.now) put_line_contract.Post
put_line = equations (λ o. o.0.now) _ _

pub read : AtMostOne read_contract.Post
read = equation _

pub write : AtMostOneWith (λ o. o.1.0.now) write_contract.Post
write = equations (λ o. o.1.0.now) _ _

pub write_answer : AtMostOneWith (λ o. o.1.0.now) write_answer_contract.Post
write_answer = equations (λ o. o.1.0.now) _ _

-- ---- encoding, decoding and image
pub phase_value : AtMostOne phase_value_contract.Post
phase_value = equation _

pub encode : AtMostOneWith (λ o. o.1.0.now) encode_contract.Post
encode = filling (λ o. o.1.0.now) _

pub decode : AtMostOne decode_contract.Post
decode = equation _

pub read_image : AtMostOne read_image_contract.Post
read_image = equation _

pub write_image : AtMostOneWith (λ o. o.1.0.now) write_image_contract.Post
write_image = equations (λ o. o.1.0.now) _ _

-- ---- table
pub entry : AtMostOne entry_contract.Post
entry = equation _

pub step_by_table : AtMostOne step_by_table_contract.Post
step_by_table = equation _

-- ---- replay
pub run : AtMostOneWith (λ o. o.1.1.0.now) run_contract.Post
run = equations (λ o. o.1.1.0.now) _ _

pub reply : AtMostOneWith (λ o. o.1.1.0.now) reply_contract.Post
reply = equations (λ o. o.1.1.0.now) _ _

-- ---- pieces
pub empty_carry : AtMostOne empty_carry_contract.Post
empty_carry = equation _

pub take : AtMostOneWith (λ o. o.1.1.1.0.now) take_contract.Post
take = equations (λ o. o.1.1.1.0.now) _ _

pub finish : AtMostOne finish_contract.Post
finish = equation _
