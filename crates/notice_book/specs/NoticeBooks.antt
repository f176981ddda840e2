-- What a book is to its callers: its entries in rising order of their numbers, and its room.
use Rattle.std.specs.Prelude.{◌≡◌, ℕ, ◌<◌, ◌++◌, List, [], ◌∷◌, length, insert}
use Rattle.std.specs.declared.alloc.Global.{Global}
use Rattle.std.specs.declared.dyn_box.DynBox.{DynBox}
use denote.Param.Members.{Mut}
use Rattle.notice_book.specs.declared.entry.Called.{Called}
use Rattle.notice_book.specs.declared.entry.Entry.{Entry}
use Rattle.notice_book.specs.declared.entry.Persisted.{Persisted}
use Rattle.notice_book.specs.declared.book.NoticeBook.{NoticeBook}
use Rattle.notice_book.specs.declared.book.InsertRefusal.{InsertRefusal}
use Rattle.notice_book.specs.declared.book.InsertRefusal.TheVariants.{Full, Taken}
use Rattle.notice_book.specs.Numbered.{IsNumberFree, IsNumberTaken, AnswersEach, due_entries, later_entries}
use Rattle.notice_book.specs.Told.{persisted_at}

-- the notice that a refusal hands back
abbrev pub refused_notice : {N : Type 0} → InsertRefusal N → N
refused_notice (Full notice) = notice
refused_notice (Taken notice) = notice

-- X, F and M are the closure in the box, and what may be asked of it
module _ {X : Type 0} {F : X → Type 0} {M : Mut ((x : X) × F x) (Persisted × Unit {0}) ℕ} where
  abbrev pub number_of_notice : Entry X F M → ℕ
  number_of_notice entry = entry.number

  abbrev pub entries_of : NoticeBook X F M → List (Entry X F M)
  entries_of book = book.entries.items

  abbrev pub IsBookFull : NoticeBook X F M → Type 0
  IsBookFull book = length (entries_of book) ≡ book.room

  abbrev pub HasRoom : NoticeBook X F M → Type 0
  HasRoom book = length (entries_of book) < book.room

  -- the answer that calling the entry's notice at this mark may give
  abbrev pub MayAnswer : ℕ → Entry X F M → ℕ → Type 0
  MayAnswer mark entry word = M.post (entry.notice.vtable, entry.notice.value) (persisted_at entry.number mark, tt) word

  -- a notice of this number came behind the others
  pub record Appends (number : ℕ) (notice : DynBox X Global F) (old new : NoticeBook X F M) : Type 0 where
    pub entry : Entry X F M
    pub numbered : entry.number ≡ number
    pub noticed : entry.notice ≡ notice
    pub entries : entries_of new ≡ entries_of old ++ entry ∷ []
    pub room : new.room ≡ old.room

  -- a notice of this number came in at a place, and the others are as they were
  pub record InsertsEntry (number : ℕ) (notice : DynBox X Global F) (old new : List (Entry X F M)) : Type 0 where
    pub place : ℕ
    pub entry : Entry X F M
    pub numbered : entry.number ≡ number
    pub noticed : entry.notice ≡ notice
    pub entries : new ≡ insert old place entry

  -- Full where there is no room, and else Taken where the book has the number
  abbrev pub RefusesInsert : {N : Type 0} → ℕ → NoticeBook X F M → InsertRefusal N → Type 0
  RefusesInsert number book (Full _) = IsBookFull book
  RefusesInsert number book (Taken _) = HasRoom book × IsNumberTaken number_of_notice number (entries_of book)

  -- where neither is so
  pub record MayInsert (number : ℕ) (book : NoticeBook X F M) : Type 0 where
    pub room : HasRoom book
    pub free : IsNumberFree number_of_notice number (entries_of book)

  -- a book may take a notice, and it came in
  pub record InsertsNotice (number : ℕ) (notice : DynBox X Global F) (old new : NoticeBook X F M) : Type 0 where
    pub allowed : MayInsert number old
    pub added : InsertsEntry number notice (entries_of old) (entries_of new)
    pub room : new.room ≡ old.room

  -- exactly the notices below the mark are called, once each and in rising order, and the others stay
  pub record Delivers (mark : ℕ) (old : NoticeBook X F M) (answers : List Called) (new : NoticeBook X F M) : Type 0 where
    pub called : AnswersEach number_of_notice (MayAnswer mark) (due_entries number_of_notice mark (entries_of old)) answers
    pub others : entries_of new ≡ later_entries number_of_notice mark (entries_of old)
    pub room : new.room ≡ old.room
