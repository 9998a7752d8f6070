-- What is drawn: rows with an entry for each arc, S(e) by lengths, boxes emptied and grown, and the first node that a box misses.
pub mod Drawn
pub mod Leads
pub mod Gathered
pub mod Missed
