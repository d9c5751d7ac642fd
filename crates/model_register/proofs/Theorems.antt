-- The theorems on the register, each one claim. The arguments stand in the files that are cited; docs/PROOFS.md says
-- which demand each one meets.
-- Assumes nothing.
use mathlib.Core.Path.{◌≡◌}
use mathlib.Core.Bool.{true}
use mathlib.Core.List.{List}
use Prim.Native.Nat.{ℕ, ◌<◌}
use lib.Pow.{are_bytes}
use Rattle.model.specs.declared.Head.{Head}
use Rattle.model.specs.declared.Line.{Line}
use Rattle.model.specs.declared.Checked.TheVariants.{Accepted}
use Rattle.model.specs.Judgement.{judge}
use Rattle.model.specs.Policy.{Policy}
use Rattle.model.specs.Session.{Reply}
use Rattle.model_register.specs.Bits.{BitsAre}
use Rattle.model_register.specs.Ledger.{LedgerIs, BuffersAre}
use Rattle.model_register.specs.Entries.{WordsAre}
use Rattle.model_register.specs.Faults.{RegisterIs}
use Rattle.model_register.specs.Sound.{SoundIs}
use Rattle.model_register.specs.Met.{MetIs}
use Rattle.model_register.specs.Card.{CardIs}
use Rattle.model_register.specs.Calls.{StepIs}
use Rattle.model_register.specs.Returns.{CheckIs, CallReturns}
use Rattle.model_register.specs.Changes.{ChangesAre}
use Rattle.model_register.specs.Loops.{LoopIs}
use Rattle.model_register.specs.Moves.{MovesAre}
use Rattle.model_register.proofs.BitsProof
use Rattle.model_register.proofs.LedgerProof
use Rattle.model_register.proofs.EntriesProof
use Rattle.model_register.proofs.FaultsProof
use Rattle.model_register.proofs.SoundProof
use Rattle.model_register.proofs.MetProof
use Rattle.model_register.proofs.CardProof
use Rattle.model_register.proofs.CallsProof
use Rattle.model_register.proofs.ReturnsProof
use Rattle.model_register.proofs.ChangesProof
use Rattle.model_register.proofs.LoopsProof
use Rattle.model_register.proofs.MovesProof

-- member p of a set in bytes is bit p mod 8 of byte p div 8
pub bits_are : BitsAre
bits_are = BitsProof.bits_are

-- the ledger byte by byte: which bit says what of a user's line
pub ledger_is : (W : ℕ) (ledger : List ℕ) → are_bytes ledger ≡ true → (u : ℕ) → LedgerIs W ledger u
ledger_is = LedgerProof.ledger_is

-- a buffer after a call, byte by byte
pub buffers_are : (buffer : List ℕ) (r : Reply) → BuffersAre buffer r
buffers_are = LedgerProof.buffers_are

-- a word is read as an entry without spare bits exactly if it is what is written for the entry; so is the head
pub words_are : WordsAre
words_are = EntriesProof.words_are

-- 1 to 8: the judgement of an image by its words is the register's answer
pub register_is : (s : List ℕ) → RegisterIs s
register_is = FaultsProof.register_is

-- 11: the lines that the calls take for sound are those that 01 says are
pub sound_is : (s : List ℕ) (h : Head) → judge s ≡ Accepted h → SoundIs s
sound_is = SoundProof.sound_is

-- 20, condition 6: which roles are counted once a set is put in, and when an exclusion is met
pub met_is : (l : Line) (k s j : ℕ) → MetIs l k s j
met_is = MetProof.met_is

-- 20, CARD: no t different sessions of all users hold a role of the set that has the limit t
pub card_is : (W : ℕ) (p : Policy) (ledger : List ℕ) (u k s : ℕ) → u < p.head.users → k < W → CardIs W p ledger u k s
card_is = CardProof.card_is

-- 1 to 8, 22, 23, 9 and up: a call's event is the one that the register says, and no other
pub step_is : (W : ℕ) → StepIs W
step_is = CallsProof.steps_are

-- what a check returns to a host is the register's number and its extra
pub check_is : (s : List ℕ) → CheckIs s
check_is = ReturnsProof.check_is

-- so is what a call returns
pub call_returns : (W : ℕ) → CallReturns W
call_returns = ReturnsProof.call_returns

-- what an open, a close and an ask make of a line, by its members
pub changes_are : (k : ℕ) (l : Line) → ChangesAre k l
changes_are = ChangesProof.changes_are

-- ---- the calls that name no user; those of tidy images and of tables are in tidy_laws, turned and turned_table

-- 1 to 8, 19, 20: the loop call's answer is the one that the register says, and no other
pub loop-is : (s : List ℕ) → LoopIs s
loop-is = LoopsProof.loop-is

-- as a check, 9, 19, 11 and 24: so is a move's
pub moves_are : (F W : ℕ) → MovesAre F W
moves_are = MovesProof.moves_are
