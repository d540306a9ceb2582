pub mod AmountParts
pub mod Escaping
pub mod MessageTexts
pub mod RefusalParts
pub mod ReplyParts
pub mod ViewParts
