mod LanguageLemmas
mod MarkLemmas
mod StringLemmas
