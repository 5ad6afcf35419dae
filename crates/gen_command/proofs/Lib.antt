mod Leads
